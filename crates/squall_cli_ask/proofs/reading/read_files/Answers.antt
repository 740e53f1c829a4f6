use Rattle.std.proofs.Common.{◌≡◌, ◌++◌, ◌∷◌, [], ℕ, List, false, take, refl, ap, sym, subst, ◌∙◌, ◌+◌}
use Rattle.std.specs.Prelude.{Contains, map, string_bytes}
use Rattle.std.specs.List.{list_all}
use Rattle.squall_cli_device.specs.States.{FoundEnd}
use Rattle.squall_cli_lines.specs.Heeding.{InputFails}
use Rattle.squall_cli_lines.specs.declared.RunFault.TheVariants.{NoMemory}
use Rattle.squall_cli_ask.specs.Files.{is_input}
use Rattle.squall_cli_ask.specs.Told.{IsTold}
use Rattle.squall_cli_ask.specs.Gathered.{AreRead, IsNextRead}
use Rattle.squall_cli_ask.proofs.Telling.{fault_goes, told_of, told_after}
use Rattle.squall_cli_ask.proofs.Gathering.{read_more, next_names, contains_next, not_all, none_named, taken_next, kept_next, ended_next, device_next}
use Rattle.squall_cli_ask.proofs.reading.read_files.Goals as goal

pub returns-in-Err-clause-kept : goal.returns-in-Err-clause-kept
returns-in-Err-clause-kept g c = λ none.
    let before = none_named string_bytes is_input c.args.names.now c.loop-name.name-index c.name-item.result c.as_str-name.result.now c.loop-name-test.true c.name-item.is c.as_str-name.ensures.value none in
    c.in-Err.ensures.kept_too before.1 ∙ c.loop-name.invariant.kept (c.loop-name.invariant.taken ∙ before.0)

pub returns-in_default-clause-kept : goal.returns-in_default-clause-kept
returns-in_default-clause-kept g c = λ none.
    let before = none_named string_bytes is_input c.args.names.now c.loop-name.name-index c.name-item.result c.as_str-name.result.now c.loop-name-test.true c.name-item.is c.as_str-name.ensures.value none in
    c.in-Ok.ensures.kept_too before.1 ∙ c.loop-name.invariant.kept (c.loop-name.invariant.taken ∙ before.0)

pub returns-in-Err-clause-device : goal.returns-in-Err-clause-device
returns-in-Err-clause-device g c = λ three.
    device_next (λ d. InputFails (g.S.Source.state d) (g.S.Source.state c.read_next.new.input)) (list_all is_input (map string_bytes c.args.names.now) ≡ false)
    c.args.input.now c.loop-name.input c.loop-name.is_taken _ c.loop-name.invariant.kept
    (not_all string_bytes is_input c.args.names.now c.loop-name.name-index c.name-item.result c.as_str-name.result.now c.loop-name-test.true c.name-item.is c.as_str-name.ensures.value)
    (c.in-Err.ensures.device three)

pub returns-in-Err-clause-told : goal.returns-in-Err-clause-told
returns-in-Err-clause-told g c =
    let t = c.in-Err.ensures.told in
    let named = Contains (map string_bytes c.args.names.now) in
    told_after g.E.Sink.state c.args.err.now c.loop-name.err c.read_next.new.err (IsTold named c.in-Err.status) c.loop-name.invariant.err (
      t.0,
      told_of (λ file. file ≡ c.as_str-name.result.now) named c.in-Err.status t.0
          (λ file. contains_next string_bytes c.args.names.now c.loop-name.name-index c.name-item.result c.as_str-name.result.now file c.loop-name-test.true c.name-item.is c.as_str-name.ensures.value) t.1,
      t.2,
    )

pub returns-in_default-clause-told : goal.returns-in_default-clause-told
returns-in_default-clause-told g c =
    told_after g.E.Sink.state c.args.err.now c.read_next.new.err c.tell_fault.new.err (IsTold (Contains (map string_bytes c.args.names.now)) c.tell_fault.result)
    (c.in-Ok.ensures.quiet refl ∙ c.loop-name.invariant.err) (fault_goes _ c.tell_fault.result _ _ NoMemory c.tell_fault.ensures.status c.tell_fault.ensures.told)

pub loop-name-preserved : goal.loop-name-preserved
loop-name-preserved g c =
    let i = c.loop-name.invariant in
    let r = c.in-Ok.ensures in
    let name : List ℕ = c.as_str-name.result.now in
    let old : List (List ℕ) = map string_bytes (take c.loop-name.name-index c.args.names.now) in
    let names : map string_bytes (take (c.loop-name.name-index + 1) c.args.names.now) ≡ old ++ name ∷ [] =
    next_names string_bytes c.args.names.now c.loop-name.name-index c.name-item.result c.loop-name-test.true c.name-item.is ∙ ap (λ w. old ++ w ∷ []) (sym c.as_str-name.ensures.value) in
    let known = g.F.Files.known c.args.files.now in
    let j = (g.S.Source.state c.loop-name.input).remaining in
    let k = (g.S.Source.state c.read_next.new.input).remaining in
    let next : IsNextRead known j k c.loop-name.is_taken name c.in-Ok.bytes.items = subst (λ f. IsNextRead f j k c.loop-name.is_taken name c.in-Ok.bytes.items) i.files r.bytes in
    let read = read_more known (g.S.Source.state c.args.input.now).remaining j k old c.loop-name.read.items c.loop-name.is_taken name c.in-Ok.bytes.items i.taken i.read next in
    record {
      files = r.files ∙ i.files;
      err = r.quiet refl ∙ i.err;
      taken = c.is_named-is_taken.ensures ∙ taken_next c.loop-name.is_taken old _ name i.taken names;
      read = subst (λ w. AreRead known (g.S.Source.state c.args.input.now).remaining k w c.add_file.new.files.items) (sym names)
          (subst (AreRead known (g.S.Source.state c.args.input.now).remaining k (old ++ name ∷ [])) (sym c.in-Ok-add_file.ensures) read);
      kept = kept_next c.args.input.now c.loop-name.input c.read_next.new.input c.loop-name.is_taken (is_input name) c.is_named-is_taken.result c.is_named-is_taken.ensures i.kept r.kept_too;
      ended = ended_next (λ a b. FoundEnd (g.S.Source.state a) (g.S.Source.state b)) c.args.input.now c.loop-name.input c.read_next.new.input c.loop-name.is_taken (is_input name) c.is_named-is_taken.result
          c.is_named-is_taken.ensures i.kept i.ended r.kept (λ e f. r.ended e f refl);
      heeds = r.heeds (λ e. cc) ∙ i.heeds;
    }
