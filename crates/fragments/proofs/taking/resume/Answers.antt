use native.Mathlib.Omega.{arith}
use mathlib.Core.Path.{◌≡◌, sym, ◌∙◌}
use mathlib.Core.Bool.{true}
use Prim.Native.Nat.{◌+◌, ◌≤◌}
use lib.ListN.{length}
use Rattle.envelope.specs.Envelopes.{most_bits}
use Rattle.envelope.proofs.Numbers.{AllBytes}
use Rattle.envelope.proofs.Sizes.{largest_is}
use Rattle.fragments.specs.Mail.{unfinished}
use Rattle.fragments.specs.Record.{held_in}
use Rattle.fragments.proofs.Calls.{sized}
use Rattle.fragments.proofs.Resuming.{Room, has_room, resuming_none, put_fits, rest_fits, whole_fits, still_open, resuming_more, resume_whole, resume_refused, resume_part, resume_shape}
use Rattle.fragments.proofs.taking.resume.Goals as goal

pub returns-then-not-is_unfinished : goal.returns-then-not-is_unfinished
returns-then-not-is_unfinished c =
    resume_shape most_bits _ _ _ _ _ c.is_unfinished.ensures c.if-not-is_unfinished.true

pub loop-lacks-init : goal.loop-lacks-init
loop-lacks-init c =
    let space : 11 + c.args.n ≤ length c.args.rec.now = omega (arith, c.requires.0, c.requires.1) in
    let begins : unfinished most_bits (held_in c.args.n c.args.rec.now) ≡ true = sym c.is_unfinished.ensures ∙ c.if-not-is_unfinished.false in
    resuming_none most_bits _ _ _ space _ begins c.held_lacks-lacks.ensures

pub put_bytes-requires : goal.put_bytes-requires
put_bytes-requires c =
    let bytes_rec : AllBytes c.args.rec.now = λ k. omega (arith, c.slice_known-1.given k) in
    let bytes_fragment : AllBytes c.args.fragment.now = λ k. omega (arith, c.type_inv.fragment k) in
    let space : 11 + c.args.n ≤ length c.args.rec.now = omega (arith, c.requires.0, c.requires.1) in
    put_fits most_bits _ _ _ space sized c.requires.0 bytes_rec
    bytes_fragment _ _ _ _ c.loop-lacks.invariant c.loop-lacks-test.true

pub read_held-requires : goal.read_held-requires
read_held-requires c =
    let bytes_rec : AllBytes c.args.rec.now = λ k. omega (arith, c.slice_known-1.given k) in
    let bytes_fragment : AllBytes c.args.fragment.now = λ k. omega (arith, c.type_inv.fragment k) in
    let space : 11 + c.args.n ≤ length c.args.rec.now = omega (arith, c.requires.0, c.requires.1) in
    let roomy : Room most_bits c.loop-lacks.rec c.loop-lacks.m c.loop-lacks.lacks = has_room most_bits _ _ _ space sized c.requires.0 bytes_rec
    bytes_fragment _ _ _ _ c.loop-lacks.invariant in
    omega (arith, roomy, c.put_bytes.auto.out)

pub in_record-requires : goal.in_record-requires
in_record-requires c =
    let bytes_rec : AllBytes c.args.rec.now = λ k. omega (arith, c.slice_known-1.given k) in
    let bytes_fragment : AllBytes c.args.fragment.now = λ k. omega (arith, c.type_inv.fragment k) in
    let space : 11 + c.args.n ≤ length c.args.rec.now = omega (arith, c.requires.0, c.requires.1) in
    whole_fits most_bits _ _ _ space sized c.requires.0 bytes_rec
    bytes_fragment _ _ _ _ c.loop-lacks.invariant _ c.loop-lacks-test.true c.put_bytes.ensures _ _
    c.read_held.ensures c.in-Ok.is

pub returns-in-Ok : goal.returns-in-Ok
returns-in-Ok c =
    let bytes_rec : AllBytes c.args.rec.now = λ k. omega (arith, c.slice_known-1.given k) in
    let bytes_fragment : AllBytes c.args.fragment.now = λ k. omega (arith, c.type_inv.fragment k) in
    let space : 11 + c.args.n ≤ length c.args.rec.now = omega (arith, c.requires.0, c.requires.1) in
    let begins : unfinished most_bits (held_in c.args.n c.args.rec.now) ≡ true = sym c.is_unfinished.ensures ∙ c.if-not-is_unfinished.false in
    resume_whole most_bits _ _ _ space sized c.requires.0 bytes_rec
    bytes_fragment _ _ _ _ c.loop-lacks.invariant _ c.loop-lacks-test.true c.put_bytes.ensures _ _
    _ _ _ begins c.read_held.ensures c.in-Ok.is c.put_head.ensures
    c.in_record.ensures

pub returns-in_default : goal.returns-in_default
returns-in_default c =
    let bytes_rec : AllBytes c.args.rec.now = λ k. omega (arith, c.slice_known-1.given k) in
    let bytes_fragment : AllBytes c.args.fragment.now = λ k. omega (arith, c.type_inv.fragment k) in
    let space : 11 + c.args.n ≤ length c.args.rec.now = omega (arith, c.requires.0, c.requires.1) in
    let begins : unfinished most_bits (held_in c.args.n c.args.rec.now) ≡ true = sym c.is_unfinished.ensures ∙ c.if-not-is_unfinished.false in
    resume_refused most_bits _ _ _ space sized c.requires.0 bytes_rec
    bytes_fragment _ _ _ _ c.loop-lacks.invariant _ c.loop-lacks-test.true c.put_bytes.ensures _ _
    _ _ _ begins c.read_held.ensures c.in-Err.is c.in_default.not-Cut c.refuse.ensures

pub held_lacks-lacks-requires-in-loop-lacks : goal.held_lacks-lacks-requires-in-loop-lacks
held_lacks-lacks-requires-in-loop-lacks c =
    let bytes_rec : AllBytes c.args.rec.now = λ k. omega (arith, c.slice_known-1.given k) in
    let bytes_fragment : AllBytes c.args.fragment.now = λ k. omega (arith, c.type_inv.fragment k) in
    let space : 11 + c.args.n ≤ length c.args.rec.now = omega (arith, c.requires.0, c.requires.1) in
    let roomy : Room most_bits c.loop-lacks.rec c.loop-lacks.m c.loop-lacks.lacks = has_room most_bits _ _ _ space sized c.requires.0 bytes_rec
    bytes_fragment _ _ _ _ c.loop-lacks.invariant in
    omega (arith, roomy, c.put_bytes.auto.out)

pub loop-lacks-smaller : goal.loop-lacks-smaller
loop-lacks-smaller c =
    let bytes_rec : AllBytes c.args.rec.now = λ k. omega (arith, c.slice_known-1.given k) in
    let bytes_fragment : AllBytes c.args.fragment.now = λ k. omega (arith, c.type_inv.fragment k) in
    let space : 11 + c.args.n ≤ length c.args.rec.now = omega (arith, c.requires.0, c.requires.1) in
    let roomy : Room most_bits c.loop-lacks.rec c.loop-lacks.m c.loop-lacks.lacks = has_room most_bits _ _ _ space sized c.requires.0 bytes_rec
    bytes_fragment _ _ _ _ c.loop-lacks.invariant in
    omega (arith, roomy, c.loop-lacks-test.true)

pub loop-lacks-preserved : goal.loop-lacks-preserved
loop-lacks-preserved c =
    let bytes_rec : AllBytes c.args.rec.now = λ k. omega (arith, c.slice_known-1.given k) in
    let bytes_fragment : AllBytes c.args.fragment.now = λ k. omega (arith, c.type_inv.fragment k) in
    let space : 11 + c.args.n ≤ length c.args.rec.now = omega (arith, c.requires.0, c.requires.1) in
    resuming_more most_bits _ _ _ space sized c.requires.0 bytes_rec
    bytes_fragment _ _ _ _ c.loop-lacks.invariant _ c.loop-lacks-test.true c.put_bytes.ensures _ (
    still_open most_bits _ _ _ space sized c.requires.0 bytes_rec
    bytes_fragment _ _ _ _ c.loop-lacks.invariant _ c.loop-lacks-test.true c.put_bytes.ensures
    _ _ c.read_held.ensures c.in-Err.is c.in-Cut.is) c.held_lacks-lacks-in-loop-lacks.ensures

pub put_bytes-requires-2 : goal.put_bytes-requires-2
put_bytes-requires-2 c =
    let bytes_rec : AllBytes c.args.rec.now = λ k. omega (arith, c.slice_known-1.given k) in
    let bytes_fragment : AllBytes c.args.fragment.now = λ k. omega (arith, c.type_inv.fragment k) in
    let space : 11 + c.args.n ≤ length c.args.rec.now = omega (arith, c.requires.0, c.requires.1) in
    rest_fits most_bits _ _ _ space sized c.requires.0 bytes_rec
    bytes_fragment _ _ _ _ c.loop-lacks.invariant c.loop-lacks-test.false

pub returns : goal.returns
returns c =
    let bytes_rec : AllBytes c.args.rec.now = λ k. omega (arith, c.slice_known-1.given k) in
    let bytes_fragment : AllBytes c.args.fragment.now = λ k. omega (arith, c.type_inv.fragment k) in
    let space : 11 + c.args.n ≤ length c.args.rec.now = omega (arith, c.requires.0, c.requires.1) in
    let begins : unfinished most_bits (held_in c.args.n c.args.rec.now) ≡ true = sym c.is_unfinished.ensures ∙ c.if-not-is_unfinished.false in
    resume_part most_bits _ _ _ space sized c.requires.0 bytes_rec
    bytes_fragment _ _ _ _ c.loop-lacks.invariant _ _ _ begins c.loop-lacks-test.false
    c.put_bytes-2.ensures c.put_head-2.ensures
