use Rattle.std.specs.Prelude.{◌≡◌, length, string_bytes}
use Rattle.std.proofs.Common.{ap, ◌∙◌, arith}
use Rattle.squall_c_values.specs.ReportFrames.{room_with}
use Rattle.squall_c.proofs.texts.put_plan.Goals as goal

pub returns-in-Ok : goal.returns-in-Ok
returns-in-Ok c =
    let count : c.put_bytes.result ≡ length (string_bytes c.in-Ok.text) = c.put_bytes.ensures.count ∙ ap length c.as_bytes.ensures.value in
    record {
      put = λ _. (string_bytes c.in-Ok.text, (c.in-Ok.ensures.text, c.in-Ok.ensures.reads), c.put_bytes.ensures.room ∙ ap (λ bytes. room_with bytes c.args.room.now) c.as_bytes.ensures.value, count);
      memory = λ bad. absurd (omega (arith, bad, c.put_bytes.ensures.count, c.as_bytes.ensures.len));
    }
