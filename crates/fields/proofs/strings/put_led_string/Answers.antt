use native.Mathlib.Omega.{arith}
use Rattle.bits.proofs.Reading.{shl_one}
use Rattle.fields.proofs.Writers.{refused, wide_lead, large_lead, large_items, led_too_long}
use Rattle.fields.proofs.strings.put_led_string.Goals as goal
use Rattle.fields.proofs.strings.put_led_string.Goals.{then-lead-gt8-via-then-lead-gt8, then-lead-gt8-via-else-lead-gt8+then-lead, then-lead-gt8-via-else-lead-gt8+else-lead+then-unit-gt64, then-lead-gt8-via-else-lead-gt8+else-lead+else-unit-gt64+then-n-ge16384}

pub returns-then-lead-gt8 : goal.returns-then-lead-gt8
returns-then-lead-gt8 c =
    refused _ _ _ _ _ (elim c.then-lead-gt8.branch [
      | then-lead-gt8-via-then-lead-gt8 w ↦ wide_lead _ _ _ _ w.if-lead-gt8.true
      | then-lead-gt8-via-else-lead-gt8+then-lead w ↦
          large_lead _ _ _ _ _ w.if-lead-gt8.false (shl_one c.args.lead.width (omega arith)) w.if-lead.true
      | then-lead-gt8-via-else-lead-gt8+else-lead+then-unit-gt64 w ↦
          large_items _ _ _ _ w.if-lead-gt8.false (omega (arith, shl_one c.args.lead.width (omega arith), w.if-lead.false)) w.if-unit-gt64.true
      | then-lead-gt8-via-else-lead-gt8+else-lead+else-unit-gt64+then-n-ge16384 w ↦
          led_too_long _ _ _ _ _ w.if-lead-gt8.false (omega (arith, shl_one c.args.lead.width (omega arith), w.if-lead.false))
          w.if-unit-gt64.false w.if-n-ge16384.true
    ])
