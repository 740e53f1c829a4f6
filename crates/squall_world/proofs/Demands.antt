-- What a demand, a chunk and the end of a sub-plan at a partition do to a world.
use Rattle.std.proofs.Common.{◌≡◌, ℕ, ◌++◌, ◌∷◌, [], List, length, get_or, set, Option, Some, None, Result, Ok, Err, ◌⊎◌, inl, inr, refl, sym, ap, subst, ◌∙◌}
use Rattle.std.specs.List.{slice_get}
use Rattle.std.specs.declared.alloc.AllocError.{AllocError}
use Rattle.std.proofs.lemmas.List.{set-get_or}
use Rattle.std.proofs.lemmas.Option.{none-some}
use Rattle.squall_report.specs.declared.report.ReportKind.{ReportKind}
use Rattle.squall_report.specs.Issues.{PlanPair}
use Rattle.squall_part.specs.declared.giving.GiveFault.{GiveFault}
use Rattle.squall_part.specs.declared.loading.LoadFault.{LoadFault}
use Rattle.squall_part.specs.declared.loading.LoadFault.TheVariants.{NoMemory as NoRoomToLoad}
use Rattle.squall_part.specs.declared.loading.Load.TheVariants.{Again, Loaded}
use Rattle.squall_part.specs.declared.finishing.FinishFault.{FinishFault}
use Rattle.squall_part.specs.declared.finishing.FinishFault.TheVariants.{NoMemory as NoRoomToFinish}
use Rattle.squall_protocol.specs.Chunks.{ChunkValue}
use Rattle.squall_part.specs.Parts.{PartValue, IsPart}
use Rattle.squall_part.specs.Giving.{IsGiven, IsGivenAt, after_close}
use Rattle.squall_part.specs.Loading.{IsLoaded, IsFinished}
use Rattle.squall_protocol.specs.declared.event.Node.TheVariants.{Part}
use Rattle.squall_protocol.specs.declared.answer.Answer.{Answer}
use Rattle.squall_protocol.specs.declared.answer.Answer.TheVariants.{Closed, Finished, Loaded as LoadedAnswer, Again as AgainAnswer}
use Rattle.squall_protocol.specs.declared.answer.Refusal.{Refusal}
use Rattle.squall_world.specs.declared.peer.Role.TheVariants.{Part as PartRole}
use Rattle.squall_world.specs.Nets.{PeerValue, NetValue, place_of, turned, reported}
use Rattle.squall_world.specs.Acts.{Gives, Closes, Loads, Finishes}
use Rattle.squall_nodes.specs.PartCalls.{give_refusal, load_refusal, finish_refusal}
use Rattle.squall_world.specs.Events.{HasPart, with_gift, answer_of, IsGiveIn, IsGiveAtIn, IsCloseIn, IsLoadIn, IsFinishIn}
use Rattle.squall_world.proofs.Standing.{put_is, has_part}

-- a fault that is told as a refusal is no lack of memory, so it is what the node itself answered
pub refused_by : {F : Type 0} (P : F → Type 0) (refusal : F → Option Refusal) (none f : F) (e : Refusal) → refusal none ≡ None → refusal f ≡ Some e → (f ≡ none) ⊎ P f → P f
refused_by P refusal none f e silent is (inl same) = absurd (none-some e (sym silent ∙ sym (ap refusal same) ∙ is))
refused_by P refusal none f e silent is (inr asked) = asked

-- the world with another node at a place, and other chunks
abbrev pub put_in : NetValue → ℕ → PeerValue → List ChunkValue → NetValue
put_in n at q chunks = record n { peers = set n.peers at q; chunks = chunks }

module _ (n m : NetValue) (at : ℕ) (peer q : PeerValue) (chunks : List ChunkValue) (put : m ≡ put_in n at q chunks) (read : peer ≡ get_or n.peers at peer) where
  -- nothing changed
  pub unchanged : q ≡ peer → chunks ≡ n.chunks → m ≡ n
  unchanged same kept = put ∙ (λ i. record n { peers = (ap (set n.peers at) (same ∙ read) ∙ set-get_or n.peers at peer) i; chunks = kept i })

module _ (n m : NetValue) (p at : ℕ) (peer q : PeerValue) (chunks : List ChunkValue) (put : m ≡ put_in n at q chunks) (place : place_of n (Part p) ≡ Some at) (read : peer ≡ get_or n.peers at peer) where
  module _ (Asked : PartValue → Result ChunkValue GiveFault → PartValue → Type 0) where
    pub given : (i : ℕ) (x : ChunkValue) → i ≡ length n.chunks → Gives Asked peer (Ok x) q → chunks ≡ n.chunks ++ x ∷ []
        → (to : ℕ) × (node : PeerValue) × (a : PartValue) × (b : PartValue) × HasPart n p to node a × Asked a (Ok x) b × IsPart b × (i ≡ length n.chunks) × (m ≡ with_gift n to node b x)
    given i x index (a, b, role, asked, valid, turn) more =
        (at, peer, a, b, has_part n p at peer place read a role, asked, valid, index, put ∙ λ i. record n { peers = (ap (set n.peers at) turn ∙ put_is at (turned peer (PartRole b)) n.peers) i; chunks = more i })

    pub not_given : (f : GiveFault) (e : Refusal) → Gives Asked peer (Err f) q → chunks ≡ n.chunks → give_refusal f ≡ Some e
        → (to : ℕ) × (node : PeerValue) × (a : PartValue) × (g : GiveFault) × HasPart n p to node a × Asked a (Err g) a × (give_refusal g ≡ Some e) × (m ≡ n)
    not_given f e (a, role, asked, same) kept refusal = (at, peer, a, f, has_part n p at peer place read a role, asked, refusal, unchanged n m at peer q chunks put read same kept)

  give_refused_by : (most : ℕ) (f : GiveFault) (o : Option Refusal) (r : Result Answer AllocError) → give_refusal f ≡ o → answer_of o r → Gives (λ a r b. IsGiven a most r b) peer (Err f) q → chunks ≡ n.chunks → IsGiveIn n p most r m
  give_refused_by most f None (Ok a) is h g kept = absurd h
  give_refused_by most f None (Err e) is h g kept = unchanged n m at peer q chunks put read g.3 kept
  give_refused_by most f (Some e) r is h g kept = subst (λ r. IsGiveIn n p most r m) (sym h) (inr (not_given (λ a r b. IsGiven a most r b) f e g kept is))

  -- a demand that is refused, or for which there is no memory
  pub give_refused : (most : ℕ) (f : GiveFault) (r : Result Answer AllocError) → answer_of (give_refusal f) r → Gives (λ a r b. IsGiven a most r b) peer (Err f) q → chunks ≡ n.chunks → IsGiveIn n p most r m
  give_refused most f r = give_refused_by most f (give_refusal f) r refl

  give_at_refused_by : (k : ℕ) (f : GiveFault) (o : Option Refusal) (r : Result Answer AllocError) → give_refusal f ≡ o → answer_of o r → Gives (λ a r b. IsGivenAt a k r b) peer (Err f) q → chunks ≡ n.chunks → IsGiveAtIn n p k r m
  give_at_refused_by k f None (Ok a) is h g kept = absurd h
  give_at_refused_by k f None (Err e) is h g kept = unchanged n m at peer q chunks put read g.3 kept
  give_at_refused_by k f (Some e) r is h g kept = subst (λ r. IsGiveAtIn n p k r m) (sym h) (inr (not_given (λ a r b. IsGivenAt a k r b) f e g kept is))

  pub give_at_refused : (k : ℕ) (f : GiveFault) (r : Result Answer AllocError) → answer_of (give_refusal f) r → Gives (λ a r b. IsGivenAt a k r b) peer (Err f) q → chunks ≡ n.chunks → IsGiveAtIn n p k r m
  give_at_refused k f r = give_at_refused_by k f (give_refusal f) r refl

-- ---- the end of gifts

module _ (n m : NetValue) (p at : ℕ) (peer q : PeerValue) (put : m ≡ put_in n at q n.chunks) (place : place_of n (Part p) ≡ Some at) (read : peer ≡ get_or n.peers at peer) where
  pub closed : (number : ℕ) → Closes peer number q → IsCloseIn n p (Closed number) m
  closed number (a, role, is, valid, turn) =
      (at, peer, a, has_part n p at peer place read a role, valid, is, put ∙ λ i. record n { peers = (ap (set n.peers at) turn ∙ put_is at (turned peer (PartRole (after_close a))) n.peers) i })

-- ---- the end of a sub-plan

module _ (n m : NetValue) (p s at : ℕ) (peer q : PeerValue) (put : m ≡ put_in n at q n.chunks) (place : place_of n (Part p) ≡ Some at) (read : peer ≡ get_or n.peers at peer) where
  pub finished : (report : ReportKind PlanPair) → Finishes at peer s (Ok report) q → IsFinishIn n p s (Ok (Finished report)) m
  finished report (a, b, role, done, valid, turn) =
      (at, peer, a, b, has_part n p at peer place read a role, done, valid, put ∙ λ i. record n { peers = (ap (set n.peers at) turn ∙ put_is at (reported at peer (PartRole b) report) n.peers) i })

  finish_refused_by : (f : FinishFault) (o : Option Refusal) (r : Result Answer AllocError) → finish_refusal f ≡ o → answer_of o r → Finishes at peer s (Err f) q → IsFinishIn n p s r m
  finish_refused_by f None (Ok a) is h g = absurd h
  finish_refused_by f None (Err e) is h g = unchanged n m at peer q n.chunks put read g.3 refl
  finish_refused_by f (Some e) r is h g =
      subst (λ r. IsFinishIn n p s r m) (sym h) (inr (at, peer, g.0, f, has_part n p at peer place read g.0 g.1, refused_by (λ f. IsFinished g.0 s (Err f) g.0) finish_refusal NoRoomToFinish f e refl is g.2, is, unchanged n m at peer q n.chunks put read g.3 refl))

  pub finish_refused : (f : FinishFault) (r : Result Answer AllocError) → answer_of (finish_refusal f) r → Finishes at peer s (Err f) q → IsFinishIn n p s r m
  finish_refused f r = finish_refused_by f (finish_refusal f) r refl

-- ---- chunks

module _ (n m : NetValue) (j : ℕ) (x : ChunkValue) (at : ℕ) (peer q : PeerValue) (put : m ≡ put_in n at q n.chunks) (here : slice_get n.chunks j ≡ Some x) (place : place_of n (Part x.dest) ≡ Some at) (read : peer ≡ get_or n.peers at peer) where
  pub loaded : (report : ReportKind PlanPair) → Loads at peer x (Ok (Loaded report)) q → IsLoadIn n j (Ok (LoadedAnswer report)) m
  loaded report (a, b, role, done, valid, turn) =
      (x, at, peer, a, b, here, has_part n x.dest at peer place read a role, done, valid, put ∙ λ i. record n { peers = (ap (set n.peers at) turn ∙ put_is at (reported at peer (PartRole b) report) n.peers) i })

  pub loaded_again : Loads at peer x (Ok Again) q → IsLoadIn n j (Ok AgainAnswer) m
  loaded_again (a, role, done, same) = (x, at, peer, a, here, has_part n x.dest at peer place read a role, done, unchanged n m at peer q n.chunks put read same refl)

  load_refused_by : (f : LoadFault) (o : Option Refusal) (r : Result Answer AllocError) → load_refusal f ≡ o → answer_of o r → Loads at peer x (Err f) q → IsLoadIn n j r m
  load_refused_by f None (Ok a) is h g = absurd h
  load_refused_by f None (Err e) is h g = unchanged n m at peer q n.chunks put read g.3 refl
  load_refused_by f (Some e) r is h g =
      subst (λ r. IsLoadIn n j r m) (sym h)
      (inr (inr (x, at, peer, g.0, f, here, has_part n x.dest at peer place read g.0 g.1, refused_by (λ f. IsLoaded g.0 x (Err f) g.0) load_refusal NoRoomToLoad f e refl is g.2, is, unchanged n m at peer q n.chunks put read g.3 refl)))

  pub load_refused : (f : LoadFault) (r : Result Answer AllocError) → answer_of (load_refusal f) r → Loads at peer x (Err f) q → IsLoadIn n j r m
  load_refused f r = load_refused_by f (load_refusal f) r refl
