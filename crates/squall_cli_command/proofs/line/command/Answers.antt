use Rattle.std.proofs.Common.{◌≡◌, ap, ◌∙◌, refl, Ok, Err}
use Rattle.std.specs.Prelude.{not}
use Rattle.clap.specs.Words.{app_of, is_simple, is_simple_and_free, subcommand_rows_of}
use Rattle.squall_cli_command.specs.Line.{squall_app, words_of, plain_words, faults_in, shows_help}
use Rattle.squall_cli_command.specs.declared.task.LineFault.TheVariants.{Help, Bad}
use Rattle.squall_cli_command.proofs.OneSided.{squall_side}
use Rattle.squall_cli_command.proofs.Refusals.{squall_is_free, squall_is_simple, with_kind, no_fault, asked, told_as_help, told_as_bad, none_told}
use Rattle.squall_cli_command.proofs.line.command.Goals as goal

pub returns-in-Ok-clause-task : goal.returns-in-Ok-clause-task
returns-in-Ok-clause-task c =
    let app_is : app_of c.in_ok-parser.parser ≡ squall_app = c.in_ok-parser.ensures in
    let words_are : words_of c.as_slice.result.now ≡ plain_words (words_of c.args.words.now) = ap words_of c.as_slice.ensures.value ∙ c.in_ok-words.ensures in
    let none = c.in-Ok.ensures.kinds (ap is_simple_and_free app_is ∙ squall_is_free) in
    let rows = (c.in-Ok.ensures.matches (ap is_simple app_is ∙ squall_is_simple)).1 in
    asked (app_of c.in_ok-parser.parser) (words_of c.as_slice.result.now) (words_of c.args.words.now) c.in_ok-task_of-in-Ok.field-0
    (subcommand_rows_of c.in-Ok.matches) app_is words_are none rows c.in_ok-task_of-in-Ok.ensures

pub returns-in-Ok-clause-help : goal.returns-in-Ok-clause-help
returns-in-Ok-clause-help c =
    let app_is : app_of c.in_ok-parser.parser ≡ squall_app = c.in_ok-parser.ensures in
    let words_are : words_of c.as_slice.result.now ≡ plain_words (words_of c.args.words.now) = ap words_of c.as_slice.ensures.value ∙ c.in_ok-words.ensures in
    let none = no_fault (app_of c.in_ok-parser.parser) (words_of c.as_slice.result.now) (words_of c.args.words.now) app_is words_are
    (c.in-Ok.ensures.kinds (ap is_simple_and_free app_is ∙ squall_is_free)) in
    λ kept. none_told shows_help (faults_in (words_of c.args.words.now)) c.in_ok-task_of-in-Ok.field-0 Help (Ok c.in_ok-task_of-in-Ok.field-0) refl none

pub returns-in-Ok-clause-refused : goal.returns-in-Ok-clause-refused
returns-in-Ok-clause-refused c =
    let app_is : app_of c.in_ok-parser.parser ≡ squall_app = c.in_ok-parser.ensures in
    let words_are : words_of c.as_slice.result.now ≡ plain_words (words_of c.args.words.now) = ap words_of c.as_slice.ensures.value ∙ c.in_ok-words.ensures in
    let none = no_fault (app_of c.in_ok-parser.parser) (words_of c.as_slice.result.now) (words_of c.args.words.now) app_is words_are
    (c.in-Ok.ensures.kinds (ap is_simple_and_free app_is ∙ squall_is_free)) in
    λ kept. none_told (λ kind. not (shows_help kind)) (faults_in (words_of c.args.words.now)) c.in_ok-task_of-in-Ok.field-0 Bad (Ok c.in_ok-task_of-in-Ok.field-0) refl none

pub returns-clause-help : goal.returns-clause-help
returns-clause-help c =
    let app_is : app_of c.in_ok-parser.parser ≡ squall_app = c.in_ok-parser.ensures in
    let words_are : words_of c.as_slice.result.now ≡ plain_words (words_of c.args.words.now) = ap words_of c.as_slice.ensures.value ∙ c.in_ok-words.ensures in
    let kinds = with_kind (app_of c.in_ok-parser.parser) (words_of c.as_slice.result.now) (words_of c.args.words.now) c.in-Err.error app_is words_are
    (c.in-Err.ensures.kinds (ap is_simple_and_free app_is ∙ squall_is_free)) in
    told_as_help (faults_in (words_of c.args.words.now)) c.in-Err.error c.fault_in.result (squall_side (plain_words (words_of c.args.words.now))) kinds
    c.fault_in.ensures.help c.fault_in.ensures.memory (Err c.fault_in.result) refl

pub returns-clause-refused : goal.returns-clause-refused
returns-clause-refused c =
    let app_is : app_of c.in_ok-parser.parser ≡ squall_app = c.in_ok-parser.ensures in
    let words_are : words_of c.as_slice.result.now ≡ plain_words (words_of c.args.words.now) = ap words_of c.as_slice.ensures.value ∙ c.in_ok-words.ensures in
    let kinds = with_kind (app_of c.in_ok-parser.parser) (words_of c.as_slice.result.now) (words_of c.args.words.now) c.in-Err.error app_is words_are
    (c.in-Err.ensures.kinds (ap is_simple_and_free app_is ∙ squall_is_free)) in
    told_as_bad (faults_in (words_of c.args.words.now)) c.in-Err.error c.fault_in.result (squall_side (plain_words (words_of c.args.words.now))) kinds
    c.fault_in.ensures.help c.fault_in.ensures.memory (Err c.fault_in.result) refl
