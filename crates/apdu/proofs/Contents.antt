-- Message data: what is written reads back as it was, and what is read says what stands there: the root, and additions or none behind it.
-- Assumes nothing.
use mathlib.Core.Path.{◌≡◌, refl, ap, sym, subst, ◌∙◌}
use mathlib.Core.Bool.{Bool, true, false, cond, ◌&&◌}
use mathlib.Core.List.{List, [], ◌++◌}
use Prim.Native.Nat.{ℕ, zero, suc, ◌+◌, ◌-◌, ◌*◌, ◌/◌, ◌%◌, ◌^◌, ◌≤◌, ◌<◌}
use native.Mathlib.Omega.{arith}
use borrow.Author.Tests.{ltb-true, eqb-true}
use lib.Dec.{leb, ltb, eqb}
use lib.ListN.{length, take, drop, get_or}
use lib.Seq.{get_or-take, get_or-drop}
use Rattle.words.proofs.Laws.{both_left, both_right, ok_value, ok_place}
use Rattle.bits.specs.Bits.{bits_n}
use Rattle.bits.proofs.Numbers.{Bits, bits_n_suc, length_bits_n}
use Rattle.fields.specs.Additions.{additions_at}
use Rattle.fields.specs.Fields.{Reading, bit_field, string_at, then}
use Rattle.fields.specs.Encodings.{bits_fit, length_bits, within_fits}
use Rattle.fields.specs.declared.Refusal.{Refusal}
use Rattle.fields.proofs.RoundTrip.{Stands, stands_join, stands_split, bit_field_is, string_read, string_written}
use Rattle.apdu.specs.Sizes.{identifier_least, identifier_most, message_most, check_most, octet, bit}
use Rattle.apdu.specs.Pdus.{Optional, absent, given, Content, items_in, part_in, content_in}
use Rattle.apdu.specs.Encoding.{string_bits, string_fits, optional_bits, optional_fits, presence, root_bits, content_bits, content_fits}
use Rattle.apdu.specs.Reading.{span_to, part_at, optional_at, parts_within, parts_at, with_additions, data_within, data_at}
use Rattle.apdu.specs.Stripped.{root_end}
use Rattle.apdu.specs.Writing.{items_fit, part_fits, data_fits}
use Rattle.apdu.specs.declared.Data.{Data}
use Rattle.apdu.proofs.Answers.{string_room}
use Rattle.apdu.proofs.Bounds.{never, fits_items, string_is}
use Rattle.std.specs.Prelude.{Err, Ok, Option, Result}
use Rattle.pdus.specs.declared.Span.{Span}

-- bits that stand at a place, at another name for the place after them
pub stands_at : (l : List ℕ) (at next m : ℕ) (bs : List ℕ) → next ≡ m → Stands l at bs next → Stands l at bs m
stands_at l at next m bs e s = record { place = sym e ∙ s.place; within = s.within; holds = s.holds }

-- no bits stand at a place that is not past the end
pub stands_none : (l : List ℕ) (at : ℕ) → at ≤ length l → Stands l at [] at
stands_none l at h = record { place = omega arith; within = omega arith; holds = refl }

-- ---- items

-- items that end at a place, and whose count is before them
pub items_end : (l : List ℕ) (at unit n next : ℕ) (items : List ℕ) → length items ≡ unit * n → Stands l at items next
    → items_in l unit (span_to unit n next) ≡ items
items_end l at unit n next items m s =
    let p = s.place in
    let e : next - unit * n ≡ at = omega arith in
    rw (e, ← m) s.holds

-- ---- an optional field

pub is_there : Optional → Bool
is_there absent = false
is_there (given l) = true

pub record OptionalRead (l : List ℕ) (at next unit least most : ℕ) (o : Optional) : Type 0 where
  pub n : ℕ
  pub read : optional_at l (is_there o) at unit least most ≡ Ok (n, next)
  pub part : part_in l unit (part_at (is_there o) unit n next) ≡ o

pub string_back : (l : List ℕ) (at next unit least most : ℕ) (items : List ℕ) → string_fits unit least most items ≡ true
    → Stands l at (string_bits unit items) next
    → (string_at l at unit least most ≡ Ok (length items / unit, next)) × (items_in l unit (span_to unit (length items / unit) next) ≡ items)
unfolding string_bits
string_back l at next unit least most items h s =
    let n : ℕ = length items / unit in
    let e : unit * (length items / unit) ≡ length items = eqb-true _ _
    (both_left (eqb (unit * (length items / unit)) (length items)) (within_fits least most (length items / unit)) h)
    in
    let f = both_right (eqb (unit * (length items / unit)) (length items)) (within_fits least most (length items / unit)) h in
    let w = stands_split l at next (length_bits (length items / unit)) items s in (
      string_written l at unit least most (length items / unit) next items f (sym e) s,
      items_end l _ unit
          (length items / unit) next items (sym e) w.second,
    )

pub optional_written : (l : List ℕ) (at next unit least most : ℕ) (o : Optional) → optional_fits unit least most o ≡ true
    → Stands l at (optional_bits unit o) next → OptionalRead l at next unit least most o
unfolding optional_fits optional_bits optional_at part_at part_in is_there
optional_written l at next unit least most absent h s =
    let p = s.place in
    let e : at ≡ next = omega arith in
    record { n = 0; read = ap (λ (x : ℕ). Ok (0, x)) e; part = refl }
optional_written l at next unit least most (given items) h s =
    let b = string_back l at next unit least most items h s in
    record { n = length items / unit; read = b.0; part = ap given b.1 }

-- what was read says that it has shape, and that its bits stand there
record OptionalIs (l : List ℕ) (at next unit least most : ℕ) (there : Bool) (p : Option Span) : Type 0 where
  placed_fits : part_fits l unit least most p ≡ true
  stands : Stands l at (optional_bits unit (part_in l unit p)) next
  bit : presence (part_in l unit p) ≡ cond there 1 0

pub record ItemsIs (l : List ℕ) (at next unit least most n : ℕ) : Type 0 where
  pub placed_fits : items_fit l unit least most (span_to unit n next) ≡ true
  pub stands : Stands l at (string_bits unit (items_in l unit (span_to unit n next))) next

pub items_read : (l : List ℕ) (at next unit least most n : ℕ) → Bits l → 0 < unit
    → string_at l at unit least most ≡ Ok (n, next) → ItemsIs l at next unit least most n
items_read l at next unit least most n b pos e =
    let i = string_read l at unit least most n next b e in
    let p = i.from in
    let s = i.stands in
    let t = s.place in
    let w = s.within in
    let a : next - unit * n ≡ at + length (length_bits n) = omega arith in
    let h : next - unit * n + unit * n ≤ length l = omega arith in
    let q : string_bits unit (items_in l unit (span_to unit n next)) ≡ length_bits n ++ take (unit * n)
    (drop (at + length (length_bits n)) l) = string_is l unit (span_to unit n next) pos h ∙ rw a in
    record { placed_fits = fits_items l unit least most (span_to unit n next) (record { fits = i.count; held = h }); stands = rw q s }

optional_read : (l : List ℕ) (at next unit least most n : ℕ) (t : Bool) → Bits l → 0 < unit → at ≤ length l
    → optional_at l t at unit least most ≡ Ok (n, next) → OptionalIs l at next unit least most t (part_at t unit n next)
unfolding optional_at part_at part_in optional_bits part_fits
optional_read l at next unit least most n true b pos h e =
    let i = items_read l at next unit least most n b pos e in
    record { placed_fits = i.placed_fits; stands = i.stands; bit = refl }
optional_read l at next unit least most n false b pos h e =
    let p : at ≡ next = ok_place e in
    record { placed_fits = refl; stands = stands_at l at at next [] p (stands_none l at h); bit = refl }

-- ---- message data

pub there_identifier : (i m : Optional) → leb 2 (2 * presence i + presence m) ≡ is_there i
unfolding is_there
there_identifier absent absent = refl
there_identifier absent (given y) = refl
there_identifier (given x) absent = refl
there_identifier (given x) (given y) = refl

pub there_message : (i m : Optional) → eqb ((2 * presence i + presence m) % 2) 1 ≡ is_there m
unfolding is_there
there_message absent absent = refl
there_message absent (given y) = refl
there_message (given x) absent = refl
there_message (given x) (given y) = refl

pub presence_fits : (i m : Optional) → bits_fit 2 (2 * presence i + presence m) ≡ true
presence_fits absent absent = refl
presence_fits absent (given y) = refl
presence_fits (given x) absent = refl
presence_fits (given x) (given y) = refl

pub record DataRead (l : List ℕ) (at next : ℕ) (c : Content) : Type 0 where
  pub parts : Data
  pub read : data_at l at ≡ Ok (parts, next)
  pub content : content_in l l l parts ≡ c

pub data_written : (l : List ℕ) (at next : ℕ) (c : Content) → content_fits c ≡ true → Stands l at (content_bits c) next → DataRead l at next c
unfolding content_fits content_bits data_within parts_within content_in
data_written l at next c h s =
    let i : Optional = c.identifier in
    let m : Optional = c.message in
    let v : ℕ = 2 * presence c.identifier + presence c.message in
    let fi : Bool = optional_fits octet identifier_least identifier_most c.identifier in
    let fm : Bool = optional_fits bit 0 message_most c.message in
    let fc : Bool = string_fits bit 0 check_most c.check in
    let f = both_left (fi && fm) fc h in
    let p₁ : ℕ = at + length (bits_n 1 0) in
    let p₂ : ℕ = at + length (bits_n 1 0) + length (bits_n 2 (2 * presence c.identifier + presence c.message)) in
    let p₃ : ℕ = at + length (bits_n 1 0) + length (bits_n 2 (2 * presence c.identifier + presence c.message)) +
    length (optional_bits octet c.identifier) in
    let p₄ : ℕ = at + length (bits_n 1 0) + length (bits_n 2 (2 * presence c.identifier + presence c.message)) +
    length (optional_bits octet c.identifier) + length (optional_bits bit c.message) in
    let s₁ = stands_split l at next (bits_n 1 0) (bits_n 2 v ++
    (optional_bits octet c.identifier ++ (optional_bits bit c.message ++ string_bits bit c.check))) s in
    let s₂ = stands_split l p₁ next (bits_n 2 v)
    (optional_bits octet c.identifier ++ (optional_bits bit c.message ++ string_bits bit c.check))
    s₁.second in
    let s₃ = stands_split l p₂ next (optional_bits octet c.identifier)
    (optional_bits bit c.message ++ string_bits bit c.check) s₂.second in
    let s₄ = stands_split l p₃ next (optional_bits bit c.message) (string_bits bit c.check) s₃.second in
    let a = (bit_field_is 1).written_read l at 0 p₁ refl s₁.first in
    let b = (bit_field_is 2).written_read l p₁ v p₂ (presence_fits c.identifier c.message) s₂.first in
    let x = optional_written l p₂ p₃ octet identifier_least identifier_most c.identifier (both_left fi fm f) s₃.first in
    let y = optional_written l p₃ p₄ bit 0 message_most c.message (both_right fi fm f) s₄.first in
    let z = string_back l p₄ next bit 0 check_most c.check (both_right (fi && fm) fc h) s₄.second in
    record {
      parts = record { identifier = part_at (is_there c.identifier) octet x.n p₃; message = part_at (is_there c.message) bit y.n p₄; check = span_to bit (length c.check / bit) next };
      read = rw (a, b, there_identifier c.identifier c.message, there_message c.identifier c.message, x.read, y.read, z.0);
      content = rw (x.part, y.part, z.1);
    }

-- a value behind a reading: it had a value
pub on_value : {A B : Type 0} (R : Type 0) (o : B) (f : Reading A) (k : A → ℕ → Result B Refusal) → ((v : A) (m : ℕ) → f ≡ Ok (v, m) → k v m ≡ Ok o → R) → then f k ≡ Ok o → R
on_value R o (Ok (v, m)) k g e = g v m refl e
on_value R o (Err r) k g e = never (cc)

two_bits : (v : ℕ) → v < 4 → 2 * cond (leb 2 v) 1 0 + cond (eqb (v % 2) 1) 1 0 ≡ v
two_bits zero h = refl
two_bits (suc zero) h = refl
two_bits (suc (suc zero)) h = refl
two_bits (suc (suc (suc zero))) h = refl
two_bits (suc (suc (suc (suc v)))) h = absurd (omega arith)

record PartsIs (l : List ℕ) (at next : ℕ) (i m : Bool) (d : Data) : Type 0 where
  placed_fits : data_fits l l l d ≡ true
  stands : Stands l at (optional_bits octet (part_in l octet d.identifier) ++
      (optional_bits bit (part_in l bit d.message) ++ string_bits bit (items_in l bit d.check))) next
  bits : 2 * presence (part_in l octet d.identifier) + presence (part_in l bit d.message) ≡ 2 * cond i 1 0 + cond m 1 0
  end : root_end d ≡ next

parts_made : (l : List ℕ) (at p q next n₁ n₂ n₃ : ℕ) (i m : Bool) → Bits l → at ≤ length l
    → optional_at l i at octet identifier_least identifier_most ≡ Ok (n₁, p)
    → optional_at l m p bit 0 message_most ≡ Ok (n₂, q)
    → string_at l q bit 0 check_most ≡ Ok (n₃, next) → PartsIs l at next i m (record { identifier = part_at i octet n₁ p; message = part_at m bit n₂ q; check = span_to bit n₃ next })
unfolding data_fits
parts_made l at p q next n₁ n₂ n₃ i m b h x y z =
    let X = optional_read l at p octet identifier_least identifier_most n₁ i b (omega arith) h x in
    let xs = X.stands in
    let xp = xs.place in
    let xw = xs.within in
    let Y = optional_read l p q bit 0 message_most n₂ m b (omega arith) (omega arith) y in
    let Z = items_read l q next bit 0 check_most n₃ b (omega arith) z in
    let room = string_room l q bit 0 check_most n₃ next z in
    record {
      placed_fits = rw (X.placed_fits, Y.placed_fits) Z.placed_fits;
      stands = stands_join l at p next _ _ X.stands (stands_join l p q next _ _ Y.stands Z.stands);
      bits = rw (X.bit, Y.bit);
      end = omega arith;
    }

parts_read : (l : List ℕ) (at next : ℕ) (i m : Bool) (d : Data) → Bits l → at ≤ length l
    → parts_at l at i m ≡ Ok (d, next) → PartsIs l at next i m d
unfolding parts_within
parts_read l at next i m d b h e = on_value (PartsIs l at next i m d) (d, next) (optional_at l i at octet identifier_least identifier_most) _ first e
  where
    third : (n₁ p n₂ q : ℕ) → optional_at l i at octet identifier_least identifier_most ≡ Ok (n₁, p)
        → optional_at l m p bit 0 message_most ≡ Ok (n₂, q) → (n₃ k : ℕ) → string_at l q bit 0 check_most ≡ Ok (n₃, k)
        → ◌≡◌ {A = Reading Data} (Ok (record { identifier = part_at i octet n₁ p; message = part_at m bit n₂ q; check = span_to bit n₃ k }, k)) (Ok (d, next)) → PartsIs l at next i m d
    third n₁ p n₂ q x y n₃ k z w =
        let u : record { identifier = part_at i octet n₁ p; message = part_at m bit n₂ q; check = span_to bit n₃ k } ≡ d = ok_value w in
        let j : k ≡ next = ok_place w in
        rw (← u, ← j) (parts_made l at p q k n₁ n₂ n₃ i m b h x y z)

    second : (n₁ p : ℕ) → optional_at l i at octet identifier_least identifier_most ≡ Ok (n₁, p) → (n₂ q : ℕ)
        → optional_at l m p bit 0 message_most ≡ Ok (n₂, q)
        → then {B = Data × ℕ} (string_at l q bit 0 check_most) (λ (n k : ℕ). Ok (record { identifier = part_at i octet n₁ p; message = part_at m bit n₂ q; check = span_to bit n k }, k)) ≡ Ok (d, next) → PartsIs l at next i m d
    second n₁ p x n₂ q y w = on_value (PartsIs l at next i m d) (d, next) (string_at l q bit 0 check_most) _ (third n₁ p n₂ q x y) w

    first : (n₁ p : ℕ) → optional_at l i at octet identifier_least identifier_most ≡ Ok (n₁, p)
        → then {B = Data × ℕ} (optional_at l m p bit 0 message_most) (λ (n₂ q : ℕ). then (string_at l q bit 0 check_most) (λ (n k : ℕ). Ok (record { identifier = part_at i octet n₁ p; message = part_at m bit n₂ q; check = span_to bit n k }, k))) ≡ Ok (d, next)
        → PartsIs l at next i m d
    first n₁ p x w = on_value (PartsIs l at next i m d) (d, next) (optional_at l m p bit 0 message_most) _ (second n₁ p x) w

-- What was read says: it is within the sizes; the extension bit, `mark`, stands first; the root stands behind it; and behind the root nothing, or additions.
pub record DataIs (l : List ℕ) (at next : ℕ) (d : Data) : Type 0 where
  pub placed_fits : data_fits l l l d ≡ true
  pub mark : ℕ
  pub low : mark < 2
  pub extension : Stands l at (bits_n 1 mark) (at + 1)
  pub root : Stands l (at + 1) (root_bits (content_in l l l d)) (root_end d)
  pub added : ℕ
  pub behind : cond (eqb mark 0) (Ok (0, root_end d)) (additions_at l (root_end d)) ≡ Ok (added, next)

-- a bit that stands at a place
bit_there : (l : List ℕ) (at b next : ℕ) → b < 2 → Stands l at (bits_n 1 b) next → get_or l at 0 ≡ b
bit_there l at b next h s =
    let z : at + 0 ≡ at = omega arith in
    let k : take 1 (drop at l) ≡ bits_n 1 b = rw (length_bits_n 1 b) at s.holds in
    let one : get_or (bits_n 1 b) 0 0 ≡ b / 2 ^ 0 % 2 = ap (λ (x : List ℕ). get_or x 0 0) (bits_n_suc 0 b) in
    ap (λ (p : ℕ). get_or l p 0) (sym z) ∙ sym (get_or-drop at l 0 0) ∙ sym (get_or-take 1 (drop at l) 0 0 (omega arith)) ∙
    ap (λ (x : List ℕ). get_or x 0 0) k ∙ one ∙ low
  where
    low : b / 2 ^ 0 % 2 ≡ b
    low = omega arith

-- the extension bit is the bit at the place
pub data_mark : (l : List ℕ) (at next : ℕ) (d : Data) (i : DataIs l at next d) → get_or l at 0 ≡ i.mark
data_mark l at next d i = bit_there l at i.mark (at + 1) i.low i.extension

-- without additions the encoding stands there
pub data_plain : (l : List ℕ) (at next : ℕ) (d : Data) (i : DataIs l at next d) → i.mark ≡ 0
    → Stands l at (content_bits (content_in l l l d)) next
unfolding content_bits
data_plain l at next d i z =
    let x = i.behind in
    let y : Ok (0, root_end d) ≡ Ok (i.added, next) = rw (z) at x in
    let e : root_end d ≡ next = ok_place y in
    let w : Stands l at (bits_n 1 0) (at + 1) = subst (λ (m : ℕ). Stands l at (bits_n 1 m) (at + 1)) z i.extension in
    stands_at l at (root_end d) next _ e (stands_join l at (at + 1) (root_end d) (bits_n 1 0) (root_bits (content_in l l l d)) w i.root)

data_made : (l : List ℕ) (at p q v e next n added : ℕ) (d : Data) → v < 4 → e < 2 → Stands l at (bits_n 1 e) p
    → Stands l p (bits_n 2 v) q → PartsIs l q n (leb 2 v) (eqb (v % 2) 1) d
    → cond (eqb e 0) (Ok (0, n)) (additions_at l n) ≡ Ok (added, next) → DataIs l at next d
unfolding content_in
data_made l at p q v e next n added d h low s t i k =
    let c = i.bits ∙ two_bits v h in
    let u : Stands l p (bits_n 2 (2 * presence (part_in l octet d.identifier) + presence (part_in l bit d.message))) q = rw c t in
    let w = stands_join l p q n _ _ u i.stands in
    let f : n ≡ root_end d = sym i.end in
    let a : p ≡ at + 1 = s.place ∙ ap (λ (x : ℕ). at + x) (length_bits_n 1 e) in
    record {
      placed_fits = i.placed_fits;
      mark = e;
      low = low;
      extension = stands_at l at p (at + 1) (bits_n 1 e) a s;
      root = subst (λ (x : ℕ). Stands l x (root_bits (content_in l l l d)) (root_end d)) a (stands_at l p n (root_end d) _ f w);
      added = added;
      behind = subst (λ (x : ℕ). cond (eqb e 0) (Ok (0, x)) (additions_at l x) ≡ Ok (added, next)) f k;
    }

-- the two ways behind the fields
pub record Behind (l : List ℕ) (e next : ℕ) (t : Reading Data) (d : Data) : Type 0 where
  pub place : ℕ
  pub added : ℕ
  pub parts : t ≡ Ok (d, place)
  pub rest : cond (eqb e 0) (Ok (0, place)) (additions_at l place) ≡ Ok (added, next)

pub behind_read : (l : List ℕ) (e next : ℕ) (t : Reading Data) (d : Data)
    → cond (eqb e 0) t (with_additions l t) ≡ Ok (d, next) → Behind l e next t d
unfolding with_additions
behind_read l e next t d k = by (eqb e 0) refl t refl k
  where
    more : (x : Bool) → eqb e 0 ≡ x → x ≡ false → (f : Data) (n : ℕ) → t ≡ Ok (f, n) → (z : Reading ℕ)
        → additions_at l n ≡ z → then {B = Data × ℕ} z (λ (v after : ℕ). Ok (f, after)) ≡ Ok (d, next)
        → Behind l e next t d
    more x p q f n u (Ok (v, after)) y w =
        let a : f ≡ d = ok_value w in
        let b : after ≡ next = ok_place w in
        record { place = n; added = v; parts = u ∙ ap (λ (g : Data). Ok (g, n)) a; rest = rw (p, q) (y ∙ ap (λ (place : ℕ). Ok (v, place)) b) }
    more x p q f n u (Err r) y w = never (cc)

    by : (x : Bool) → eqb e 0 ≡ x → (u : Reading Data) → t ≡ u
        → cond x u (then u (λ (f : Data) (n : ℕ). then (additions_at l n) (λ (v after : ℕ). Ok (f, after)))) ≡ Ok (d, next)
        → Behind l e next t d
    by true p u q w = record { place = next; added = 0; parts = q ∙ w; rest = rw p }
    by false p (Ok (f, n)) q w = more false p refl f n q (additions_at l n) refl w
    by false p (Err r) q w = never (cc)

pub data_read : (l : List ℕ) (at next : ℕ) (d : Data) → Bits l → data_at l at ≡ Ok (d, next) → DataIs l at next d
unfolding data_within
data_read l at next d b e = on_value (DataIs l at next d) (d, next) (bit_field l at 1) _ first e
  where
    second : (x p : ℕ) → bit_field l at 1 ≡ Ok (x, p) → (v q : ℕ) → bit_field l p 2 ≡ Ok (v, q)
        → cond (eqb x 0) (parts_at l q (leb 2 v) (eqb (v % 2) 1))
        (with_additions l (parts_at l q (leb 2 v) (eqb (v % 2) 1))) ≡ Ok (d, next) → DataIs l at next d
    second x p f v q g w =
        let s = (bit_field_is 1).read_written l at x p b f in
        let t = (bit_field_is 2).read_written l p v q b g in
        let tp = t.place in
        let tw = t.within in
        let one : x < 2 ^ 1 = ltb-true x (2 ^ 1) (both_right (leb 1 64) (ltb x (2 ^ 1)) ((bit_field_is 1).read_fits l at x p b f)) in
        let two : v < 2 ^ 2 = ltb-true v (2 ^ 2) (both_right (leb 2 64) (ltb v (2 ^ 2)) ((bit_field_is 2).read_fits l p v q b g)) in
        let k = behind_read l x next (parts_at l q (leb 2 v) (eqb (v % 2) 1)) d w in
        data_made l at p q v x next k.place k.added d (omega arith) (omega arith) s t
        (parts_read l q k.place (leb 2 v) (eqb (v % 2) 1) d b (omega arith) k.parts) k.rest

    first : (x p : ℕ) → bit_field l at 1 ≡ Ok (x, p)
        → then (bit_field l p 2) (λ (v q : ℕ). cond (eqb x 0) (parts_at l q (leb 2 v) (eqb (v % 2) 1))
        (with_additions l (parts_at l q (leb 2 v) (eqb (v % 2) 1)))) ≡ Ok (d, next) → DataIs l at next d
    first x p f w = on_value (DataIs l at next d) (d, next)
        (bit_field l p 2) _ (second x p f) w
