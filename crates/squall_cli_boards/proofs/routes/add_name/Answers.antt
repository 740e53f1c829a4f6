use Rattle.std.proofs.Common.{◌≡◌, ◌++◌, ℕ, string_bytes, ap, subst, ◌∙◌}
use Rattle.std.specs.Prelude.{OnOk}
use Rattle.squall_keymap.specs.KeyMap.{key_of_bytes}
use Rattle.squall_board.specs.Boards.{says}
use Rattle.squall_board.specs.Route.{route}
use Rattle.squall_cli_boards.specs.Routes.{named_text}
use Rattle.squall_cli_boards.proofs.routes.add_name.Goals as goal

pub returns : goal.returns
returns c =
    let to_part : ℕ → ℕ = route c.args.course.now (says c.args.board.now) in
    let part : c.route-part.result ≡ to_part (key_of_bytes c.args.name.now) = c.route-part.ensures ∙ ap to_part (c.key_of.ensures ∙ ap key_of_bytes c.as_bytes.ensures.value) in
    subst (λ (n : ℕ). OnOk c.add_named.result (string_bytes c.add_named.new.text ≡ string_bytes c.args.text.now ++ named_text c.args.name.now n)) part c.add_named.ensures
