use Rattle.std.proofs.Common.{◌≡◌, false, List, [], ℕ, inl, inr, refl, sym, subst}
use Rattle.std.proofs.KnownBytes.{Appends-nil, Consumes-nil}
use Rattle.std.specs.Io.KnownBytes.{Consumes}
use Rattle.std.specs.Prelude.{Contains, map, string_bytes}
use Rattle.std.specs.List.{list_any}
use Rattle.squall_cli_lines.specs.Heeding.{Says}
use Rattle.squall_cli_ask.specs.Files.{is_input}
use Rattle.squall_cli_ask.specs.Reads.{bytes_at}
use Rattle.squall_cli_ask.specs.Told.{IsNoName, IsTold}
use Rattle.squall_cli_ask.specs.Gathered.{AreRead}
use Rattle.squall_cli_ask.specs.Followed.{files_followed, IsPromptTo, IsDrawnFor}
use Rattle.squall_cli_ask.proofs.Followed.{unread_undrawn}
use Rattle.squall_cli_ask.proofs.Telling.{told_of}
use Rattle.squall_cli_ask.proofs.stream.answer_after.Goals as goal

pub returns-in-Ok-clause-told : goal.returns-in-Ok-clause-told
returns-in-Ok-clause-told g c =
    let read = c.in-Ok.ensures in
    let t = c.answer_input.ensures.told in
    let status = c.answer_input.result in
    let stream = c.args.follow.now.stream in
    let known = g.F.Files.known c.args.files.now in
    let input = (g.S.Source.state c.args.input.now).remaining in
    let after = (g.S.Source.state c.answer_input.new.input).remaining in
    let other : list_any is_input (map string_bytes c.deref.result.now) ≡ false =
    subst (λ w. list_any is_input (map string_bytes w) ≡ false) (sym c.deref.ensures.value) c.requires in
    let kept = read.kept other in
    let quiet = read.quiet refl in
    let are_read = subst (λ w. AreRead known input input (map string_bytes w) c.in-Ok.read.items) c.deref.ensures.value
    (subst (λ d. AreRead known input (g.S.Source.state d).remaining (map string_bytes c.deref.result.now) c.in-Ok.read.items) kept read.read) in
    let bars = subst (λ w. IsDrawnFor stream (g.E.Sink.terminal c.args.err.now) status w input after (g.E.Sink.state c.args.err.now) t.0) c.deref-in-Ok.ensures.value
    (subst (λ e. IsDrawnFor stream (g.E.Sink.terminal e) status c.deref-in-Ok.result.now input after (g.E.Sink.state e) t.0) quiet
    (subst (λ d. IsDrawnFor stream (g.E.Sink.terminal c.read_files.new.err) status c.deref-in-Ok.result.now (g.S.Source.state d).remaining after (g.E.Sink.state c.read_files.new.err) t.0) kept t.1)) in (
      t.0,
      inl (c.in-Ok.read.items, are_read, bars),
      t.2,
      told_of IsNoName (Contains (files_followed c.args.follow.now)) status t.2 (λ name none. absurd none) t.3,
      t.4,
    )

pub returns-in-Err-clause-done : goal.returns-in-Err-clause-done
returns-in-Err-clause-done g c = inr (c.in-Err.ensures.fault, Appends-nil (g.O.Sink.state c.args.out.now).contents, c.in-Err.ensures.some)

pub returns-in-Ok-clause-prompt : goal.returns-in-Ok-clause-prompt
returns-in-Ok-clause-prompt g c =
    let read = c.in-Ok.ensures in
    let t = c.answer_input.ensures.prompt in
    let stream = c.args.follow.now.stream in
    let known = g.F.Files.known c.args.files.now in
    let input = (g.S.Source.state c.args.input.now).remaining in
    let after = (g.S.Source.state c.answer_input.new.input).remaining in
    let other : list_any is_input (map string_bytes c.deref.result.now) ≡ false =
    subst (λ w. list_any is_input (map string_bytes w) ≡ false) (sym c.deref.ensures.value) c.requires in
    let kept = read.kept other in
    let are_read = subst (λ w. AreRead known input input (map string_bytes w) c.in-Ok.read.items) c.deref.ensures.value
    (subst (λ d. AreRead known input (g.S.Source.state d).remaining (map string_bytes c.deref.result.now) c.in-Ok.read.items) kept read.read) in
    inl (
      c.in-Ok.read.items,
      t.0,
      t.1,
      subst (λ d. Consumes (g.S.Source.state d).remaining after t.0) kept t.2,
      t.3,
      are_read,
      subst (λ w. IsPromptTo stream w t.0 t.1) c.deref-in-Ok.ensures.value t.4,
    )

pub returns-in-Err-clause-prompt : goal.returns-in-Err-clause-prompt
returns-in-Err-clause-prompt g c =
    let other : list_any is_input (map string_bytes c.deref.result.now) ≡ false =
    subst (λ w. list_any is_input (map string_bytes w) ≡ false) (sym c.deref.ensures.value) c.requires in
    let input = (g.S.Source.state c.args.input.now).remaining in
    inr (subst (λ d. Consumes input (g.S.Source.state d).remaining []) (sym (c.in-Err.ensures.kept other)) (Consumes-nil input))

pub returns-in-Err-clause-told : goal.returns-in-Err-clause-told
returns-in-Err-clause-told g c =
    let t = subst (λ w. (text : List ℕ) × IsTold (Contains (map string_bytes w)) c.in-Err.status text × Says (g.E.Sink.state c.args.err.now) (g.E.Sink.state c.read_files.new.err) text)
    c.deref.ensures.value c.in-Err.ensures.told in (
      g.E.Sink.state c.args.err.now,
      unread_undrawn c.args.follow.now.stream (g.E.Sink.terminal c.args.err.now)
          (bytes_at (g.F.Files.known c.args.files.now) (g.S.Source.state c.args.input.now) (g.O.Sink.state c.args.out.now))
          (bytes_at (g.F.Files.known c.read_files.new.files) (g.S.Source.state c.read_files.new.input) (g.O.Sink.state c.args.out.now))
          (files_followed c.args.follow.now) c.in-Err.status (g.E.Sink.state c.args.err.now) c.in-Err.ensures.fault,
      t.0,
      t.1,
      t.2,
    )
