use Rattle.std.proofs.Common.{◌≡◌, ◌+◌, ◌-◌, ◌++◌, ◌∷◌, [], ℕ, List, get_or, set, length, refl, ap, sym, subst, ◌∙◌, arith}
use Rattle.std.proofs.lemmas.List.{set-get_or, with_items_is}
use Rattle.std.specs.Arc.{arc_value}
use Rattle.squall_key.specs.Keys.{part_limit}
use Rattle.squall_plan.specs.declared.range.PlanRange.{PlanRange}
use Rattle.squall_report.specs.declared.report.ReportKind.TheVariants.{Issued}
use Rattle.squall_report.specs.Issues.{plan_pair}
use Rattle.squall_course.specs.Change.{Change}
use Rattle.squall_leader.specs.Leaders.{LeaderValue}
use Rattle.squall_world.specs.declared.peer.Role.TheVariants.{Leader as LeaderRole}
use Rattle.squall_world.specs.Nets.{NetValue, PeerValue}
use Rattle.squall_world.specs.Naming.{AreNoted}
use Rattle.squall_world.proofs.Standing.{leader_peer, read_leader}
use Rattle.squall_world.proofs.Begun.{nothing_begun, not_begun, kept, still_noted, counted, is_begun}
use Rattle.squall_world.proofs.net.Net.begin_course.Goals as goal

pub returns-in_err-reserve : goal.returns-in_err-reserve
returns-in_err-reserve c =
    let same = ap (λ (n : NetValue). record n { courses = c.reserve.new.self.items }) c.self.view_is in
    let courses = c.reserve.ensures.items ∙ ap (λ (n : NetValue). n.courses) c.self.view_is in
    nothing_begun c.args.self.now _ c.args.old.now c.args.new.now c.from_residual-in_err-reserve.result c.from_residual-in_err-reserve.ensures.0
    (kept c.args.self.now _ c.reserve.new.self.items c.args.self.now.ended c.args.self.now.peers same courses refl refl)

pub returns-in_err-reserve-2 : goal.returns-in_err-reserve-2
returns-in_err-reserve-2 c =
    let same = ap (λ (n : NetValue). record n { courses = c.reserve.new.self.items; ended = c.reserve-2.new.self.items }) c.self.view_is in
    let courses = c.reserve.ensures.items ∙ ap (λ (n : NetValue). n.courses) c.self.view_is in
    let ended = c.reserve-2.ensures.items ∙ ap (λ (n : NetValue). n.ended) c.self.view_is in
    nothing_begun c.args.self.now _ c.args.old.now c.args.new.now c.from_residual-in_err-reserve-2.result c.from_residual-in_err-reserve-2.ensures.0
    (kept c.args.self.now _ c.reserve.new.self.items c.reserve-2.new.self.items c.args.self.now.peers same courses ended refl)

pub returns-in_err-reserve-3 : goal.returns-in_err-reserve-3
returns-in_err-reserve-3 c =
    let same = ap (λ (n : NetValue). record n { courses = c.reserve.new.self.items; ended = c.reserve-2.new.self.items; peers = c.reserve-3.new.self.items }) c.self.view_is in
    let courses = c.reserve.ensures.items ∙ ap (λ (n : NetValue). n.courses) c.self.view_is in
    let ended = c.reserve-2.ensures.items ∙ ap (λ (n : NetValue). n.ended) c.self.view_is in
    let peers = c.reserve-3.ensures.items ∙ ap (λ (n : NetValue). n.peers) c.self.view_is in
    nothing_begun c.args.self.now _ c.args.old.now c.args.new.now c.from_residual-in_err-reserve-3.result c.from_residual-in_err-reserve-3.ensures.0
    (kept c.args.self.now _ c.reserve.new.self.items c.reserve-2.new.self.items c.reserve-3.new.self.items same courses ended peers)

pub index-requires : goal.index-requires
index-requires c =
    let size : length c.self.inside.peers.items ≡ length c.args.self.now.peers = ap (λ (n : NetValue). length n.peers) c.self.view_is in
    omega (arith, c.reserve-3.ensures.len, c.self.inside.peers.ok.0, size, c.requires.room)

pub opened-opened-requires : goal.opened-opened-requires
opened-opened-requires c =
    let peers = c.reserve-3.ensures.items ∙ ap (λ (n : NetValue). n.peers) c.self.view_is in
    leader_peer c.args.self.now c.index.result.now c.requires (c.index.ensures ∙ ap (λ (ps : List PeerValue). get_or ps 0 c.index.result.now) peers)

pub index_mut-requires : goal.index_mut-requires
index_mut-requires c =
    let size : length c.self.inside.peers.items ≡ length c.args.self.now.peers = ap (λ (n : NetValue). length n.peers) c.self.view_is in
    omega (arith, c.reserve-3.ensures.len, c.self.inside.peers.ok.0, size, c.requires.room)

pub begin-requires : goal.begin-requires
begin-requires c =
    let peers = c.reserve-3.ensures.items ∙ ap (λ (n : NetValue). n.peers) c.self.view_is in
    leader_peer c.args.self.now c.index_mut.result.now c.requires (c.index_mut.ensures.value ∙ ap (λ (ps : List PeerValue). get_or ps 0 c.index_mut.result.now) peers)

pub returns-in-Err : goal.returns-in-Err
returns-in-Err c =
    let same = ap (λ (n : NetValue). record n { courses = c.reserve.new.self.items; ended = c.reserve-2.new.self.items; peers = set c.reserve-3.new.self.items 0 c.begin.new.self }) c.self.view_is in
    let courses = c.reserve.ensures.items ∙ ap (λ (n : NetValue). n.courses) c.self.view_is in
    let ended = c.reserve-2.ensures.items ∙ ap (λ (n : NetValue). n.ended) c.self.view_is in
    let peers = c.reserve-3.ensures.items ∙ ap (λ (n : NetValue). n.peers) c.self.view_is in
    let back = not_begun c.index_mut.result.now c.begin.new.self c.args.old.now c.args.new.now c.in_ok-report.report c.in-Err.field-0 c.in-Err.ensures ∙ c.index_mut.ensures.value in
    kept c.args.self.now _ c.reserve.new.self.items c.reserve-2.new.self.items (set c.reserve-3.new.self.items 0 c.begin.new.self) same courses ended
    (ap (set c.reserve-3.new.self.items 0) back ∙ set-get_or c.reserve-3.new.self.items 0 c.index_mut.result.now ∙ peers)

pub add-requires-clause-noted : goal.add-requires-clause-noted
add-requires-clause-noted c =
    let peers : c.reserve-3.new.self.items ≡ c.args.self.now.peers = c.reserve-3.ensures.items ∙ ap (λ (n : NetValue). n.peers) c.self.view_is in
    let places : c.deref_mut.result.now ≡ c.args.self.now.places = c.deref_mut.ensures.value ∙ ap (λ (n : NetValue). n.places) c.self.view_is in
    let read = c.index_mut.ensures.value ∙ ap (λ (ps : List PeerValue). get_or ps 0 c.index_mut.result.now) peers in
    let noted = still_noted c.args.self.now c.args.old.now c.args.new.now c.index_mut.result.now c.begin.new.self c.requires read c.in_ok-report.report (arc_value c.in-Ok.course) c.in-Ok.ensures in
    subst (λ (ps : List PeerValue). AreNoted (set ps 0 c.begin.new.self) c.deref_mut.result.now) (sym peers) (subst (AreNoted (set c.args.self.now.peers 0 c.begin.new.self)) (sym places) noted)

pub returns : goal.returns
returns c =
    let peers : c.reserve-3.new.self.items ≡ c.args.self.now.peers = c.reserve-3.ensures.items ∙ ap (λ (n : NetValue). n.peers) c.self.view_is in
    let read = c.index_mut.ensures.value ∙ ap (λ (ps : List PeerValue). get_or ps 0 c.index_mut.result.now) peers in
    let newest = c.newest.ensures in
    let report = c.in_ok-report.ensures in
    let before = c.index.ensures ∙ ap (λ (ps : List PeerValue). get_or ps 0 c.index.result.now) peers in
    let same_peer : c.index_mut.result.now ≡ c.index.result.now = read_leader c.args.self.now c.index.result.now c.index_mut.result.now c.requires before read in
    let opened : (a : LeaderValue) → c.index_mut.result.now.role ≡ LeaderRole a → c.opened-opened.result ≡ a.opened = λ a role. c.opened-opened.ensures a (ap (λ (p : PeerValue). p.role) (sym same_peer) ∙ role) in
    let ended = ap (λ (xs : List ℕ). xs ++ c.opened-opened.result ∷ []) (c.reserve-2.ensures.items ∙ ap (λ (n : NetValue). n.ended) c.self.view_is) in
    let number = c.in-Some.ensures.1 ∙ ap (λ (k : ℕ). k + 1) (c.number.ensures.value ∙ ap (λ (k : Change). k.number) newest) in
    let courses = c.add.ensures.courses ∙ ap (λ (cs : List Change). cs ++ arc_value c.in-Ok.course ∷ []) (c.reserve.ensures.items ∙ ap (λ (n : NetValue). n.courses) c.self.view_is) in
    let nodes = c.add.ensures.peers ∙ ap (λ (ps : List PeerValue). set ps 0 c.begin.new.self ++ c.in_ok-parts.parts.items) peers in
    let size : c.self.inside.places.len ≡ part_limit = c.self.inside.places.ok.0 ∙ ap (λ (n : NetValue). length n.places) c.self.view_is ∙ c.requires.placed.length in
    let places = with_items_is c.self.inside.places c.add.new.places (c.add.ensures.noted.length ∙ sym size) in
    let counted : c.len-2.result - 1 - c.self.inside.routers + c.args.self.now.routers + 1 ≡ length c.add.new.peers.items =
    (counted c.add.new.peers.items c.args.self.now.peers c.in_ok-parts.parts.items c.begin.new.self c.len-2.result c.self.inside.routers c.args.self.now.routers nodes c.requires.room (c.len-2.ensures ∙ c.add.new.peers.ok.0) (ap (λ (n : NetValue). n.routers) c.self.view_is)).2 in
    is_begun c.args.self.now c.args.old.now c.args.new.now c.index_mut.result.now c.begin.new.self c.requires read c.in_ok-report.report (arc_value c.in-Ok.course) c.in-Ok.ensures
    _ c.in_ok-parts.parts.items c.in-Some.number c.opened-opened.result _ c.in_ok-parts.ensures.nodes c.in_ok-parts.ensures.valid report number opened courses (c.push_reserved.ensures.items ∙ ended) nodes (subst (AreNoted c.add.new.peers.items) (sym places) c.add.ensures.noted)
    (ap (λ (n : NetValue). n.routers) c.self.view_is) (ap (λ (n : NetValue). n.messages) c.self.view_is) (ap (λ (n : NetValue). n.chunks) c.self.view_is) counted

pub overflow_sub-parts : goal.overflow_sub-parts
overflow_sub-parts c =
    let peers : c.reserve-3.new.self.items ≡ c.args.self.now.peers = c.reserve-3.ensures.items ∙ ap (λ (n : NetValue). n.peers) c.self.view_is in
    let nodes = c.add.ensures.peers ∙ ap (λ (ps : List PeerValue). set ps 0 c.begin.new.self ++ c.in_ok-parts.parts.items) peers in
    (counted c.add.new.peers.items c.args.self.now.peers c.in_ok-parts.parts.items c.begin.new.self c.len-2.result c.self.inside.routers c.args.self.now.routers nodes c.requires.room (c.len-2.ensures ∙ c.add.new.peers.ok.0) (ap (λ (n : NetValue). n.routers) c.self.view_is)).0

pub overflow_sub-parts-2 : goal.overflow_sub-parts-2
overflow_sub-parts-2 c =
    let peers : c.reserve-3.new.self.items ≡ c.args.self.now.peers = c.reserve-3.ensures.items ∙ ap (λ (n : NetValue). n.peers) c.self.view_is in
    let nodes = c.add.ensures.peers ∙ ap (λ (ps : List PeerValue). set ps 0 c.begin.new.self ++ c.in_ok-parts.parts.items) peers in
    (counted c.add.new.peers.items c.args.self.now.peers c.in_ok-parts.parts.items c.begin.new.self c.len-2.result c.self.inside.routers c.args.self.now.routers nodes c.requires.room (c.len-2.ensures ∙ c.add.new.peers.ok.0) (ap (λ (n : NetValue). n.routers) c.self.view_is)).1
