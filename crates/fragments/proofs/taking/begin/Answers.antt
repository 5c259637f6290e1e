use native.Mathlib.Omega.{arith}
use mathlib.Core.Path.{sym, ◌∙◌}
use Prim.Native.Nat.{◌≤◌}
use lib.ListN.{length}
use lib.Seq.{length-take-le}
use Rattle.envelope.specs.Envelopes.{most_bits, largest}
use Rattle.envelope.proofs.Numbers.{AllBytes}
use Rattle.fragments.proofs.Unfinished.{lacks, next_within, next_largest, body_next}
use Rattle.fragments.proofs.Calls.{sized, begin_whole, begin_part, begin_refused, begin_cut}
use Rattle.fragments.proofs.taking.begin.Goals as goal

pub slice_bounds-put_bytes-end : goal.slice_bounds-put_bytes-end
slice_bounds-put_bytes-end c =
    let bytes : AllBytes c.args.fragment.now = λ k. omega (arith, c.type_inv.fragment k) in
    let within : c.in-Ok.e.next ≤ length c.args.fragment.now = next_within most_bits sized _ bytes _ (sym c.read_envelope.ensures ∙ c.in-Ok.is) in
    sym (length-take-le _ _ within)

pub put_bytes-requires : goal.put_bytes-requires
put_bytes-requires c =
    let bytes : AllBytes c.args.fragment.now = λ k. omega (arith, c.type_inv.fragment k) in
    let within : c.in-Ok.e.next ≤ length c.args.fragment.now = next_within most_bits sized _ bytes _ (sym c.read_envelope.ensures ∙ c.in-Ok.is) in
    let fits : c.in-Ok.e.next ≤ largest most_bits = next_largest most_bits sized _ bytes _ (sym c.read_envelope.ensures ∙ c.in-Ok.is) in
    omega (arith, length-take-le _ c.args.fragment.now within, fits, c.requires)

pub in_record-requires : goal.in_record-requires
in_record-requires c =
    let bytes : AllBytes c.args.fragment.now = λ k. omega (arith, c.type_inv.fragment k) in
    let fits : c.in-Ok.e.next ≤ largest most_bits = next_largest most_bits sized _ bytes _ (sym c.read_envelope.ensures ∙ c.in-Ok.is) in (
      omega (
        arith,
        fits,
        body_next most_bits sized _ bytes _
            (sym c.read_envelope.ensures ∙ c.in-Ok.is),
      ),
      fits,
    )

pub put_bytes-requires-in-Cut : goal.put_bytes-requires-in-Cut
put_bytes-requires-in-Cut c =
    let bytes : AllBytes c.args.fragment.now = λ k. omega (arith, c.type_inv.fragment k) in
    omega (
      arith,
      c.requires,
      (lacks most_bits sized _ bytes (begin_cut _ _ _ _
          c.read_envelope.ensures c.in-Err.is c.in-Cut.is)).room,
    )

pub returns-in-Cut : goal.returns-in-Cut
returns-in-Cut c =
    begin_part _ _ _ _ _ c.read_envelope.ensures _ _ _ c.in-Err.is c.in-Cut.is
    c.put_bytes-in-Cut.ensures c.put_head-in-Cut.ensures

pub returns-in-Ok : goal.returns-in-Ok
returns-in-Ok c =
    let bytes : AllBytes c.args.fragment.now = λ k. omega (arith, c.type_inv.fragment k) in
    let within : c.in-Ok.e.next ≤ length c.args.fragment.now = next_within most_bits sized _ bytes _ (sym c.read_envelope.ensures ∙ c.in-Ok.is) in
    begin_whole _ _ _ _ _ c.read_envelope.ensures _ _ _ _ c.in-Ok.is within
    c.put_bytes.ensures c.put_head.ensures c.in_record.ensures

pub returns-in_default : goal.returns-in_default
returns-in_default c =
    begin_refused _ _ _ _ _ c.read_envelope.ensures _ _ _ c.in-Err.is
    c.in_default.not-Cut c.refuse.ensures
