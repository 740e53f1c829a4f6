use Rattle.std.specs.Prelude.{string_bytes}
use Rattle.std.proofs.Common.{◌++◌, ◌∙◌, ap, refl}
use Rattle.std.proofs.lemmas.Option.{get_or_from_slice_get}
use Rattle.squall_cli_audit.specs.LogFiles.{FileValue}
use Rattle.squall_cli_audit.specs.AuditText.{bad_text}
use Rattle.squall_cli_audit.proofs.answer.refuse_file.Goals as goal

pub returns : goal.returns
returns c =
    let file = c.requires.file in
    let number = c.args.bad.line in
    let same = c.index-files-bad.is ∙ get_or_from_slice_get c.args.files.now c.args.bad.index file c.index-files-bad.result c.requires.there in (
      bad_text file.name number,
      c.in_ok-add_bad.ensures ∙ ap (λ n. string_bytes c.args.out.now ++ bad_text n number) (c.name.ensures ∙ ap (λ (f : FileValue). f.name) same),
      record { index = c.args.bad.index; number = number; first = c.requires; refused = refl; text = refl },
    )
