-- What the contents of an edition have to show; the laws of its APDUs follow (proofs/Alternatives), once over the edition.
use mathlib.Core.Path.{◌≡◌}
use mathlib.Core.Bool.{Bool, true, false}
use mathlib.Core.List.{List}
use Prim.Native.Nat.{ℕ, ◌+◌, ◌≤◌}
use lib.Dec.{eqb}
use lib.ListN.{length, get_or}
use Rattle.bits.proofs.Numbers.{Bits}
use Rattle.fields.proofs.RoundTrip.{Stands}
use Rattle.editions.specs.declared.Edition.{Edition}
use Rattle.editions.specs.declared.Edition.TheVariants.{Plain, Protected}
use Rattle.apdu.specs.Sizes.{bit}
use Rattle.apdu.specs.Pdus.{Content, items_in, content_in}
use Rattle.apdu.specs.Writing.{data_fits, forward_fits}
use Rattle.pdus.specs.declared.PduType.{PduType}
use Rattle.apdu.specs.declared.Data.{Data}
use Rattle.apdu.specs.declared.Heading.{Heading}
use Rattle.apdu.specs.declared.Forward.{Forward}
use Rattle.apdu.proofs.Bounds.{content_most, forward_most}
use Rattle.plain.proofs.Contents.{DataRead, ForwardRead}
use Rattle.codec.specs.Codec.{content_bits, start_bits, forward_bits, start_at, send_at, forward_at}
use Rattle.codec.proofs.Stated.{is_there, content_fits, must_hold, forward_pdu_fits}
use Rattle.std.specs.Prelude.{Ok}

-- the extension bit, where there is one, is 1
abbrev pub marked : Edition → List ℕ → ℕ → Bool
marked Protected l at = eqb (get_or l at 0) 1
marked Plain l at = false

-- message data that were read; bs: their bits as a send or a start has them
pub record DataIs (ed : Edition) (t : PduType) (bs : Content → List ℕ) (l : List ℕ) (at next : ℕ) (x : Data) : Type 0 where
  pub placed_fits : data_fits l l l x ≡ true
  pub fits : content_fits ed t (content_in l l l x) ≡ true
  pub stands : marked ed l at ≡ false → Stands l at (bs (content_in l l l x)) next

pub record ForwardIs (ed : Edition) (l : List ℕ) (at : ℕ) (f : Forward) (next : ℕ) : Type 0 where
  pub placed_fits : forward_fits l f ≡ true
  pub fits : forward_pdu_fits ed f.heading (items_in l bit f.message) ≡ true
  pub stands : Stands l at (forward_bits ed f.heading (items_in l bit f.message)) next
  pub end : f.message.at + f.message.count ≡ next

pub record Contents (ed : Edition) : Type 0 where
  -- what is written is read as it was
  pub start_written : (t : PduType) (l : List ℕ) (at next : ℕ) (c : Content) → Bits l → content_fits ed t c ≡ true
      → Stands l at (start_bits ed c) next → DataRead (start_at ed t l at) l next c
  pub send_written : (t : PduType) (l : List ℕ) (at next : ℕ) (c : Content) → Bits l → content_fits ed t c ≡ true
      → must_hold ed (is_there c.message) ≡ true → Stands l at (content_bits ed c) next
      → DataRead (send_at ed t l at) l next c
  pub forward_written : (l : List ℕ) (at next : ℕ) (h : Heading) (m : List ℕ) → Bits l → forward_pdu_fits ed h m ≡ true
      → Stands l at (forward_bits ed h m) next → ForwardRead (forward_at ed l at) l next h m
  -- what is read stands there
  pub start_read : (t : PduType) (l : List ℕ) (at next : ℕ) (x : Data) → Bits l → start_at ed t l at ≡ Ok (x, next)
      → DataIs ed t (start_bits ed) l at next x
  pub send_read : (t : PduType) (l : List ℕ) (at next : ℕ) (x : Data) → Bits l → send_at ed t l at ≡ Ok (x, next)
      → DataIs ed t (content_bits ed) l at next x
  pub send_holds : (t : PduType) (l : List ℕ) (at next : ℕ) (x : Data) → send_at ed t l at ≡ Ok (x, next)
      → must_hold ed (is_there (content_in l l l x).message) ≡ true
  pub forward_read : (l : List ℕ) (at : ℕ) (f : Forward) (next : ℕ) → Bits l → forward_at ed l at ≡ Ok (f, next)
      → ForwardIs ed l at f next
  -- encodings are bits
  pub content_are_bits : (li lm lc : List ℕ) (d : Data) → Bits li → Bits lm → Bits lc → Bits (content_bits ed (content_in li lm lc d))
  pub start_are_bits : (li lm lc : List ℕ) (d : Data) → Bits li → Bits lm → Bits lc → Bits (start_bits ed (content_in li lm lc d))
  pub forward_are_bits : (h : Heading) (m : List ℕ) → Bits m → Bits (forward_bits ed h m)
  -- how large they are, by where their parts stand
  pub content_most_is : (li lm lc : List ℕ) (d : Data) → data_fits li lm lc d ≡ true
      → length (content_bits ed (content_in li lm lc d)) ≤ content_most
  pub start_most : (li lm lc : List ℕ) (d : Data) → data_fits li lm lc d ≡ true → length (start_bits ed (content_in li lm lc d)) ≤ content_most
  pub forward_most_is : (lm : List ℕ) (f : Forward) → forward_fits lm f ≡ true
      → length (forward_bits ed f.heading (items_in lm bit f.message)) ≤ forward_most
  -- and by their values
  pub content_value_most : (t : PduType) (c : Content) → content_fits ed t c ≡ true → Bits (content_bits ed c)
      → length (content_bits ed c) ≤ content_most
  pub start_value_most : (t : PduType) (c : Content) → content_fits ed t c ≡ true → Bits (start_bits ed c)
      → length (start_bits ed c) ≤ content_most
  pub forward_value_most : (h : Heading) (m : List ℕ) → forward_pdu_fits ed h m ≡ true → Bits (forward_bits ed h m)
      → length (forward_bits ed h m) ≤ forward_most
