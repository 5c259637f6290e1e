-- Where a refusal is (document 02, E1): what is claimed of the place that it carries, over any reader.
-- A reader is a function of the bits; `seen` tells of its answer the place after what was read, or the refusal.
use Rattle.std.specs.Prelude.{◌≡◌, List, ℕ, ◌≤◌, ◌<◌, length, take, Err, Ok}
use Rattle.fields.specs.Fields.{Reading, refusal}
use Rattle.fields.specs.declared.Fault.TheVariants.{Short, Tail}
use Rattle.fields.specs.declared.Refusal.{Refusal}

-- what an answer tells: the place after what was read, or the refusal
pub data Seen : Type 0 where
  went : ℕ → Seen
  refused : Refusal → Seen

-- bits that begin with the same n bits
pub record Alike (n : ℕ) (l m : List ℕ) : Type 0 where
  pub long : n ≤ length m
  pub front : take n m ≡ take n l

-- what was read ends within the bits, and no bit behind it matters
pub record Went {A : Type 0} (rd : List ℕ → A) (l : List ℕ) (at n : ℕ) : Type 0 where
  pub after : at ≤ n
  pub within : n ≤ length l
  pub same : (m : List ℕ) → Alike n l m → rd m ≡ rd l

-- The field that is refused begins at the refusal's place. Wherever the bits are cut inside it, they end inside the field that begins there: so it is the
-- field with the fault, and no field before it. No bit behind it matters. SHORT is its fault exactly where the bits end before it does.
pub record FieldAt {A : Type 0} (seen : A → Seen) (rd : List ℕ → A) (l : List ℕ) (r : Refusal) : Type 0 where
  pub end : ℕ
  pub behind : r.at < end
  pub cut : (k : ℕ) → r.at ≤ k → k < end → k ≤ length l → seen (rd (take k l)) ≡ refused (refusal r.at Short)
  pub same : end ≤ length l → (m : List ℕ) → Alike end l m → rd m ≡ rd l
  pub short : (r.fault ≡ Short → length l < end) × (length l < end → r.fault ≡ Short)

-- The place of a refusal is within the bits, and the field with the fault begins there. (TAIL is about the bits behind all fields.)
pub record Placed {A : Type 0} (seen : A → Seen) (rd : List ℕ → A) (l : List ℕ) (at : ℕ) (r : Refusal) : Type 0 where
  pub after : at ≤ r.at
  pub within : r.at ≤ length l
  pub field : (r.fault ≡ Tail → ⊥) → FieldAt seen rd l r

abbrev pub Refusing : {A : Type 0} → (A → Seen) → (List ℕ → A) → List ℕ → ℕ → Type 0
Refusing seen rd l at = (r : Refusal) → seen (rd l) ≡ refused r → Placed seen rd l at r

-- both
pub record Sound {A : Type 0} (seen : A → Seen) (rd : List ℕ → A) (l : List ℕ) (at : ℕ) : Type 0 where
  pub next : (n : ℕ) → seen (rd l) ≡ went n → Went rd l at n
  pub place : Refusing seen rd l at

abbrev pub seen_field : {A : Type 0} → Reading A → Seen
seen_field (Ok (v, n)) = went n
seen_field (Err r) = refused r
