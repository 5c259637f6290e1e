use Prim.Native.Nat.{ℕ}
use native.Mathlib.Omega.{arith}
use Rattle.stored.proofs.Storing.{Coded, store_is}
use Rattle.stored.proofs.store.Goals as goal

pub returns : goal.returns
returns c =
    let coded : Coded c.args.r = record {
      request = c.if-r-ge-SECURITY_VALUES.false;
      policy = c.if-r-ge-SECURITY_VALUES-2.false;
      least = c.if-r-lt1.false;
      most = c.if-r-ge-VERSIONS.false;
      highest = omega arith;
    } in
    let k = coded in
    store_is _ _ _ _ _ _ _ _ _ c.if-b-ne-SIZE.false (λ (i : ℕ). (c.slice_known-1.given i).fits) k (omega (arith, c.ranges.held)) c.put_head.ensures c.put_eight_bytes.ensures c.put_eight_bytes-2.ensures
