use Rattle.std.proofs.Common.{◌≡◌, [], ap, ◌∙◌}
use Rattle.std.specs.Prelude.{string_bytes, codes, not}
use Rattle.std.specs.Io.{StartsWith}
use Rattle.clap.specs.Words.{app_of, is_simple_and_free}
use Rattle.squall_cli_command.specs.Line.{squall_app, words_of, plain_words, faults_in, shows_help}
use Rattle.squall_cli_command.proofs.OneSided.{squall_side}
use Rattle.squall_cli_command.proofs.Refusals.{squall_is_free, with_kind, no_fault, none_among, shown_help, shown_fault, shown_none}
use Rattle.squall_cli_command.proofs.line.message.Goals as goal

pub returns-in-Ok-clause-help : goal.returns-in-Ok-clause-help
returns-in-Ok-clause-help c =
    let app_is : app_of c.in_ok-parser.parser ≡ squall_app = c.in_ok-parser.ensures in
    let words_are : words_of c.as_slice.result.now ≡ plain_words (words_of c.args.words.now) = ap words_of c.as_slice.ensures.value ∙ c.in_ok-words.ensures in
    none_among shows_help (faults_in (words_of c.args.words.now)) (no_fault (app_of c.in_ok-parser.parser) (words_of c.as_slice.result.now)
    (words_of c.args.words.now) app_is words_are (c.in-Ok.ensures.kinds (ap is_simple_and_free app_is ∙ squall_is_free)))

pub returns-in-Ok-clause-refused : goal.returns-in-Ok-clause-refused
returns-in-Ok-clause-refused c =
    let app_is : app_of c.in_ok-parser.parser ≡ squall_app = c.in_ok-parser.ensures in
    let words_are : words_of c.as_slice.result.now ≡ plain_words (words_of c.args.words.now) = ap words_of c.as_slice.ensures.value ∙ c.in_ok-words.ensures in
    none_among (λ kind. not (shows_help kind)) (faults_in (words_of c.args.words.now)) (no_fault (app_of c.in_ok-parser.parser) (words_of c.as_slice.result.now)
    (words_of c.args.words.now) app_is words_are (c.in-Ok.ensures.kinds (ap is_simple_and_free app_is ∙ squall_is_free)))

pub returns-clause-help : goal.returns-clause-help
returns-clause-help c =
    let app_is : app_of c.in_ok-parser.parser ≡ squall_app = c.in_ok-parser.ensures in
    let words_are : words_of c.as_slice.result.now ≡ plain_words (words_of c.args.words.now) = ap words_of c.as_slice.ensures.value ∙ c.in_ok-words.ensures in
    let kinds = with_kind (app_of c.in_ok-parser.parser) (words_of c.as_slice.result.now) (words_of c.args.words.now) c.in-Err.error app_is words_are
    (c.in-Err.ensures.kinds (ap is_simple_and_free app_is ∙ squall_is_free)) in
    shown_help (λ text. StartsWith (string_bytes text) c.args.title.now) (faults_in (words_of c.args.words.now)) c.in-Err.error c.text_of.result
    (squall_side (plain_words (words_of c.args.words.now))) kinds c.text_of.ensures.memory c.text_of.ensures.help

pub returns-clause-refused : goal.returns-clause-refused
returns-clause-refused c =
    let app_is : app_of c.in_ok-parser.parser ≡ squall_app = c.in_ok-parser.ensures in
    let words_are : words_of c.as_slice.result.now ≡ plain_words (words_of c.args.words.now) = ap words_of c.as_slice.ensures.value ∙ c.in_ok-words.ensures in
    let kinds = with_kind (app_of c.in_ok-parser.parser) (words_of c.as_slice.result.now) (words_of c.args.words.now) c.in-Err.error app_is words_are
    (c.in-Err.ensures.kinds (ap is_simple_and_free app_is ∙ squall_is_free)) in
    shown_fault (λ text. StartsWith (string_bytes text) (codes "error: ")) (faults_in (words_of c.args.words.now)) c.in-Err.error c.text_of.result
    (squall_side (plain_words (words_of c.args.words.now))) kinds c.text_of.ensures.memory c.text_of.ensures.fault

pub returns-clause-task : goal.returns-clause-task
returns-clause-task c =
    let app_is : app_of c.in_ok-parser.parser ≡ squall_app = c.in_ok-parser.ensures in
    let words_are : words_of c.as_slice.result.now ≡ plain_words (words_of c.args.words.now) = ap words_of c.as_slice.ensures.value ∙ c.in_ok-words.ensures in
    let kinds = with_kind (app_of c.in_ok-parser.parser) (words_of c.as_slice.result.now) (words_of c.args.words.now) c.in-Err.error app_is words_are
    (c.in-Err.ensures.kinds (ap is_simple_and_free app_is ∙ squall_is_free)) in
    shown_none (λ text. string_bytes text ≡ []) (faults_in (words_of c.args.words.now)) c.in-Err.error c.text_of.result kinds c.text_of.ensures.memory
