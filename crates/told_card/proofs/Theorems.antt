-- "Told once" of the exported calls: what holds of every history of calls, from the bytes that peat_fresh leaves (document 02, E12).
-- Assumes nothing.
use mathlib.Core.Path.{◌≡◌, refl, ap, sym, ◌∙◌}
use mathlib.Core.Bool.{Bool, true, false, not, cond, ◌&&◌}
use mathlib.Core.List.{List, [], ◌∷◌}
use Prim.Native.Nat.{ℕ}
use native.Mathlib.Omega.{arith}
use borrow.Author.Tests.{eqb-true, ltb-true, leb-true}
use lib.Dec.{leb, ltb, eqb}
use lib.ListN.{length}
use Rattle.words.specs.Limits.{shape}
use Rattle.words.proofs.Laws.{both_left, both_right}
use Rattle.editions.specs.Editions.{is_type, edition_of}
use Rattle.editions.specs.declared.Edition.{Edition}
use Rattle.control.specs.declared.Side.{Side}
use Rattle.control.specs.declared.Side.TheVariants.{Air, Ground}
use Rattle.machine.specs.Codes.{security_values, versions, no_security}
use Rattle.machine.specs.Record.{fresh_record}
use Rattle.machine.specs.declared.record.Configuration.{Configuration}
use Rattle.machine.specs.declared.record.Record.{Record}
use Rattle.stored.specs.Stored.{record_bytes, side_code, version_fits, store_at, kept, stored_bytes}
use Rattle.stored.proofs.Storing.{Coded}
use Rattle.step.proofs.Taken.{never}
use Rattle.card.specs.Face.{first_number, configured, fresh_for, fresh_call}
use Rattle.told.specs.Histories.{Entry}
use Rattle.told.proofs.Chains.{Chain, chain_told_once}
use Rattle.told.proofs.Theorems.{fresh_runs}
use Rattle.told_card.specs.Answers.{Lent, answer, history, leaves, CardToldOnce}
use Rattle.told_card.proofs.Calls.{Bytes, stored, call_leaves}

-- ---- any calls, from the bytes of a record that a run reaches

record Chained (sd : Side) (p : Bool) (b : List ℕ) (l : List Entry) : Type 0 where
  held : Record
  number : ℕ
  bytes : Bytes sd b held number
  chain : Chain sd p l held.active

chained : (sd : Side) (cs : List Lent) (r : List ℕ) (x : Record) (n : ℕ) → Bytes sd r x n
    → Chained sd x.active (leaves r cs) (history r cs)
unfolding history leaves
chained sd [] r x n h = record { held = x; number = n; bytes = h; chain = refl }
chained sd (c ∷ cs) r x n h =
    let a = call_leaves sd r c.first c.second x n h c.call in
    let b = chained sd cs (answer r c).kept a.held a.number a.bytes in
    record { held = b.held; number = b.number; bytes = b.bytes; chain = record { after = a.held.active; law = a.law; rest = b.chain } }

-- ---- the bytes that peat_fresh leaves, where it answers 0

pub record Fresh (sd : Side) (ed : Edition) (b : List ℕ) : Type 0 where
  pub configuration : Configuration
  pub bytes : Bytes sd b (fresh_record configuration) first_number
  pub edition : configuration.edition ≡ ed

-- a record that was stored
fresh_stored : (sd : Side) (r : List ℕ) (g : Configuration)
    → (fresh_for (store_at r sd (fresh_record g) first_number)).number ≡ 0
    → Fresh sd g.edition (fresh_for (store_at r sd (fresh_record g) first_number)).bytes
unfolding fresh_for store_at
fresh_stored sd r g e = record { configuration = g; bytes = stored sd r (fresh_record g) first_number (eqb-true (length r) record_bytes size) coded (omega arith) (fresh_runs sd g); edition = refl }
  where
    fits : (t : Bool) → cond t 0 shape ≡ 0 → t ≡ true
    fits true e = refl
    fits false e = never (ap (λ (k : ℕ). eqb k 2) (sym e))

    done : (t : Bool) (a b : List ℕ) → (cond t (kept true a) (kept false b)).done ≡ t
    done true a b = refl
    done false a b = refl

    all : eqb (length r) record_bytes && ltb no_security security_values && ltb g.policy security_values && version_fits g.version ≡ true
    all = sym (done _ (stored_bytes sd (fresh_record g) first_number) r) ∙ fits _ e

    before : eqb (length r) record_bytes && ltb no_security security_values && ltb g.policy security_values ≡ true
    before = both_left _ (version_fits g.version) all

    size : eqb (length r) record_bytes ≡ true
    size = both_left (eqb (length r) record_bytes) (ltb no_security security_values) (both_left _ (ltb g.policy security_values) before)

    version : version_fits g.version ≡ true
    version = both_right (eqb (length r) record_bytes && ltb no_security security_values && ltb g.policy security_values)
        (version_fits g.version) all

    coded : Coded (fresh_record g)
    coded =
        record {
          request = omega arith;
          policy = ltb-true g.policy security_values (both_right
              (eqb (length r) record_bytes && ltb no_security security_values) (ltb g.policy security_values) before);
          least = leb-true 1 g.version (both_left (leb 1 g.version) (ltb g.version versions) version);
          most = ltb-true g.version versions (both_right (leb 1 g.version) (ltb g.version versions) version);
          highest = omega arith;
        }

pub fresh_bytes : (sd : Side) (r : List ℕ) (p f v t : ℕ) → (fresh_call r (side_code sd) p f v t).number ≡ 0
    → Fresh sd (edition_of t) (fresh_call r (side_code sd) p f v t).bytes
unfolding fresh_call
fresh_bytes Air r p f v t = go (ltb 1 f) (not (is_type t))
  where
    go : (y z : Bool) → (cond y (record { number = shape; bytes = r }) (cond z (record { number = shape; bytes = r }) (fresh_for (store_at r Air (fresh_record (configured p f v t)) first_number)))).number ≡ 0
        → Fresh Air (edition_of t) (cond y (record { number = shape; bytes = r }) (cond z (record { number = shape; bytes = r }) (fresh_for (store_at r Air (fresh_record (configured p f v t)) first_number)))).bytes
    go true z e = never (ap (λ (k : ℕ). eqb k 2) (sym e))
    go false true e = never (ap (λ (k : ℕ). eqb k 2) (sym e))
    go false false e = fresh_stored Air r (configured p f v t) e
fresh_bytes Ground r p f v t = go (ltb 1 f) (not (is_type t))
  where
    go : (y z : Bool) → (cond y (record { number = shape; bytes = r }) (cond z (record { number = shape; bytes = r }) (fresh_for (store_at r Ground (fresh_record (configured p f v t)) first_number)))).number ≡ 0
        → Fresh Ground (edition_of t) (cond y (record { number = shape; bytes = r }) (cond z (record { number = shape; bytes = r }) (fresh_for (store_at r Ground (fresh_record (configured p f v t)) first_number)))).bytes
    go true z e = never (ap (λ (k : ℕ). eqb k 2) (sym e))
    go false true e = never (ap (λ (k : ℕ). eqb k 2) (sym e))
    go false false e = fresh_stored Ground r (configured p f v t) e

-- ---- the theorem

-- any range r, a policy p, forwarding f, a version v and an application type t with which peat_fresh answers 0 for the side sd; any calls cs
pub card_told_once : (sd : Side) (r : List ℕ) (p f v t : ℕ) (cs : List Lent) → (fresh_call r (side_code sd) p f v t).number ≡ 0
    → CardToldOnce sd (leaves (fresh_call r (side_code sd) p f v t).bytes cs) (history (fresh_call r (side_code sd) p f v t).bytes cs)
card_told_once sd r p f v t cs e =
    let b = (fresh_call r (side_code sd) p f v t).bytes in
    let fresh = fresh_bytes sd r p f v t e in
    let c = chained sd cs b (fresh_record fresh.configuration) first_number fresh.bytes in
    record { held = c.held; number = c.number; load = c.bytes.load; told = chain_told_once sd c.held.active (history b cs) c.chain }
