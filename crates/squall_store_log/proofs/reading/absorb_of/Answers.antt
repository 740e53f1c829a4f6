use Rattle.std.proofs.Common.{◌≡◌, ℕ, [], length, Result, Ok, sym, ap, ◌∙◌}
use Rattle.squall_wire.specs.declared.fault.WireFault.{WireFault}
use Rattle.std.proofs.lemmas.List.{append-nil}
use Rattle.squall_wire.specs.declared.message.Message.{Message}
use Rattle.squall_wire.specs.declared.message.Message.TheVariants.{Delta}
use Rattle.squall_wire.specs.Messages.{spell}
use Rattle.squall_store_log.proofs.Payloads.{absorbed}
use Rattle.squall_store_log.proofs.reading.absorb_of.Goals as goal

abbrev read_ok : Message × ℕ → Result (Message × ℕ) WireFault
read_ok x = Ok x

read_is : (x y : Message × ℕ) → read_ok x ≡ read_ok y → x ≡ y
read_is x y e = cc

pub returns-then-used-fields : goal.returns-then-used-fields
returns-then-used-fields c = λ r fits e.
    let a = absorbed c.args.fields.now r fits e in
    let read = read_is (Delta a.0, length (spell (Delta a.0))) c.in-Ok.read (c.in-Ok.ensures.only (Delta a.0) [] a.1 a.2) in
    c.if-used-fields.true (ap (λ (x : Message × ℕ). x.1) (sym read) ∙ ap length (sym (append-nil (spell (Delta a.0)))) ∙ ap length (sym a.2))
