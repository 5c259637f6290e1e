-- What a body has to show, and a choice of bodies.
-- Assumes nothing.
use mathlib.Core.Path.{◌≡◌, refl}
use mathlib.Core.Bool.{Bool, true, false}
use mathlib.Core.List.{List}
use Prim.Native.Nat.{ℕ, ◌+◌, ◌-◌, ◌*◌, ◌^◌, ◌≤◌, ◌<◌}
use lib.ListN.{length}
use Rattle.bits.proofs.Numbers.{Bits}
use Rattle.fields.specs.Encodings.{index_bits}
use Rattle.fields.proofs.RoundTrip.{Stands}
use Rattle.pdus.specs.declared.Content.{Content}
use Rattle.front.specs.declared.Found.{Found}
use Rattle.front.specs.Padding.{buffer_least}
use Rattle.front.specs.Body.{Lent, one, Body, Alternative, Choice}
use Rattle.front.specs.Apdus.{index_of}
use Rattle.std.specs.Prelude.{Err, Ok, Result}
use Rattle.fields.specs.Fields.{Reading, then}
use Rattle.fields.specs.declared.Refusal.{Refusal}
use Rattle.apdu.proofs.Bounds.{never}

-- lent bits are bits
pub record AreBits (s : Lent) : Type 0 where
  pub identifiers : Bits s.identifiers
  pub messages : Bits s.messages
  pub checks : Bits s.checks

pub one_bits : (l : List ℕ) → Bits l → AreBits (one l)
one_bits l b = record { identifiers = b; messages = b; checks = b }

-- a value that is read back
pub record Back (b : Alternative) (l : List ℕ) (at next : ℕ) (v : b.Value) : Type 0 where
  pub found : Found
  pub read : b.read l at ≡ Ok (found, next)
  pub same : b.value (one l) found ≡ v

pub record Taken (b : Body) (l : List ℕ) (at next : ℕ) (v : b.Value) : Type 0 where
  pub content : Content
  pub read : b.read l at ≡ Ok (content, next)
  pub same : b.value (one l) content ≡ v

-- with an index of four bits before it and the padding behind it, an alternative is no larger than a buffer; a body has a mode before it
abbrev pub alternative_most : ℕ
alternative_most = 8 * buffer_least - 11

abbrev pub body_most : ℕ
body_most = alternative_most - 2

-- a run may have a bit before it that says whether it is there
abbrev pub run_most : ℕ
run_most = body_most - 1

pub record BodyLaws (b : Body) : Type 0 where
  pub most : (v : b.Value) → b.fits v ≡ true → length (b.bits v) ≤ body_most
  pub are_bits : (s : Lent) (x : Content) → AreBits s → Bits (b.bits (b.value s x))
  pub value_fits : (s : Lent) (x : Content) → AreBits s → b.stands s x ≡ true → b.fits (b.value s x) ≡ true
  pub written_read : (l : List ℕ) (at next : ℕ) (v : b.Value) → Bits l → b.fits v ≡ true
      → Stands l at (b.bits v) next → Taken b l at next v
  pub read_stands : (l : List ℕ) (at next : ℕ) (x : Content) → Bits l → b.read l at ≡ Ok (x, next) → b.stands (one l) x ≡ true
  pub read_plain : (l : List ℕ) (at next : ℕ) (x : Content) → Bits l → b.read l at ≡ Ok (x, next)
      → b.plain l at x ≡ b.bits (b.value (one l) x)
  pub unextended : (l : List ℕ) (at next : ℕ) (x : Content) → Bits l → b.read l at ≡ Ok (x, next)
      → b.extended l at x ≡ false → Stands l at (b.bits (b.value (one l) x)) next
  pub clear : (l : List ℕ) (at next : ℕ) (x : Content) → Stands l at (b.bits (b.value (one l) x)) next → b.extended l at x ≡ false

pub record Laws (b : Alternative) : Type 0 where
  pub most : (v : b.Value) → b.fits v ≡ true → length (b.bits v) ≤ alternative_most
  pub are_bits : (s : Lent) (x : Found) → AreBits s → Bits (b.bits (b.value s x))
  pub value_fits : (s : Lent) (x : Found) → AreBits s → b.stands s x ≡ true → b.fits (b.value s x) ≡ true
  pub written_read : (l : List ℕ) (at next : ℕ) (v : b.Value) → Bits l → b.fits v ≡ true
      → Stands l at (b.bits v) next → Back b l at next v
  pub read_stands : (l : List ℕ) (at next : ℕ) (x : Found) → Bits l → b.read l at ≡ Ok (x, next) → b.stands (one l) x ≡ true
  pub read_plain : (l : List ℕ) (at next : ℕ) (x : Found) → Bits l → b.read l at ≡ Ok (x, next)
      → b.plain l at x ≡ b.bits (b.value (one l) x)
  pub unextended : (l : List ℕ) (at next : ℕ) (x : Found) → Bits l → b.read l at ≡ Ok (x, next)
      → b.extended l at x ≡ false → Stands l at (b.bits (b.value (one l) x)) next
  pub clear : (l : List ℕ) (at next : ℕ) (x : Found) → Stands l at (b.bits (b.value (one l) x)) next → b.extended l at x ≡ false

pub record ChoiceLaws (c : Choice) : Type 0 where
  pub small : c.last < 2 ^ 64
  pub width : (i : ℕ) → length (index_bits c.last i) ≤ 4
  pub body : (i : ℕ) → i ≤ c.last → Laws (c.body i)
  pub named : (i : ℕ) → i ≤ c.last → (l : List ℕ) (at next : ℕ) (x : Found) → (c.body i).read l at ≡ Ok (x, next)
      → index_of x.pdu ≡ i

-- what goes on from a reading and is an answer: the reading was one
pub via : {A B : Type 0} (R : Type 0) (f : Reading A) (k : A → ℕ → Result B Refusal) (o : B)
    → ((x : A) (n : ℕ) → f ≡ Ok (x, n) → k x n ≡ Ok o → R) → then f k ≡ Ok o → R
via R (Ok (x, n)) k o g e = g x n refl e
via R (Err r) k o g e = never (cc)
