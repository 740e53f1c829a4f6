use Rattle.squall_store_log.specs.Records.{spell_rows}
use Rattle.squall_store_log.proofs.Payloads.{loaded}
use Rattle.squall_store_log.proofs.reading.load_of.Goals as goal

pub returns-in_default : goal.returns-in_default
returns-in_default c = λ r fits e.
    let a = loaded c.args.fields.now r fits e in
    c.in_default.ensures.none a.0 (spell_rows a.1) a.2 a.4
