-- A call that sends, and a job that is decided or opened: what the page says after it.
-- Assumes nothing.
use mathlib.Core.Path.{◌≡◌, refl, ap, sym, subst, ◌∙◌}
use mathlib.Core.Bool.{Bool, true, false, not, cond, ◌||◌}
use mathlib.Core.List.{List, [], ◌∷◌, ◌++◌}
use Prim.Native.Nat.{ℕ, suc, ◌+◌, ◌≤◌, ◌<◌}
use native.Mathlib.Omega.{arith}
use borrow.Author.Tests.{eqb-true, eqb-false, eq-eqb, ne_eqb, le-ltb}
use lib.Dec.{eqb, ltb}
use lib.ListN.{get_or, set, length-set}
use Rattle.pair.specs.Names.{Side}
use Rattle.pair.specs.Carrier.{Body}
use Rattle.pair.specs.Numbered.{Numbered}
use Rattle.pair.proofs.ControlMachine.{Ent}
use Rattle.duties.specs.Memory.{Decision, Notes, is_decided, decide}
use Rattle.control.specs.declared.Call.{Call}
use Rattle.moves.specs.declared.Held.{Held as Holds}
use Rattle.moves_laws.proofs.Steps.{page}
use Rattle.tables.specs.Tables.{held_in, holding, member, among, pushed, put_on_line}
use Rattle.tables.specs.Steps.{is_up_of, ready_rule, kind_sent, sent}
use Rattle.tables.proofs.Tables.{get_same, get_other, held_back}
use Rattle.tables_laws.proofs.Reading.{jobs_from, notices_from, power_of, entry_of, line_of, notes_of, page_of, Sound}
use Rattle.tables_laws.proofs.Places.{Same, same_below, same_above, jobs_same, jobs_more, notices_same, among_same}
use Rattle.tables_laws.proofs.Effects.{held_same, hold_same, length_hold, put_lined, pushed_on, put_pushed}
use Rattle.tables_laws.proofs.Follow.{upon, roomy, page_path, line_stays, decided_stays, low_sound, low_line, low_notes, notes_stay}

-- ---- the next call may be made

pub record Ready (l : List ℕ) : Type 0 where
  pub is_up : is_up_of l ≡ true
  pub shown : eqb (get_or l 5 0) 0 ≡ true

pub ready_is : (l : List ℕ) → ready_rule l ≡ 0 → Ready l
unfolding ready_rule
ready_is l h =
    let x = upon (λ (v : ℕ). v) (is_up_of l) (cond (eqb (get_or l 5 0) 0) 0 14) 3 (λ (w : 3 ≡ 0). omega (arith, w)) h in
    let y = upon (λ (v : ℕ). v) (eqb (get_or l 5 0) 0) 0 14 (λ (w : 14 ≡ 0). omega (arith, w)) (sym x.1 ∙ h) in
    record { is_up = x.0; shown = y.0 }

-- ---- the record

pub held_sound : (d : ℕ → Decision) (l : List ℕ) (r : Holds) → Sound d l → Sound d (holding l r)
held_sound d l r s =
    let m : List ℕ = holding l r in
    let high : Same l m 4 53264 = hold_same l r 53264 in
    let g4 = high 4 (omega arith) (omega arith) in
    let g5 = high 5 (omega arith) (omega arith) in
    low_sound d l m s (λ (i : ℕ) (u : 7 ≤ i) (v : i < 53264). high i (omega (arith, u)) v) (length_hold l r)
    (omega (arith, g4, s.powered)) (λ (w : get_or m 4 0 ≡ 2). g5 ∙ s.rests (sym g4 ∙ w))

-- ---- an entry goes on the line

pub record Puts (text : Side → ℕ → Body) (sd : Side) (d : ℕ → Decision) (l m : List ℕ) (kind number job : ℕ) : Type 0 where
  pub line : line_of text sd m ≡ line_of text sd l ++ (entry_of text sd kind number job ∷ [])
  pub notes : notes_of text d m ≡ notes_of text d l
  pub unsent : get_or m 6 0 ≡ suc (get_or l 6 0)
  pub low : Same l m 0 6
  pub sound : Sound d m

pub puts_one : (text : Side → ℕ → Body) (sd : Side) (d : ℕ → Decision) (l : List ℕ) (kind number job : ℕ) → Sound d l
    → (put_on_line l kind number job).answer ≡ true → Puts text sd d l (put_on_line l kind number job).page kind number job
puts_one text sd d l kind number job s w =
    let m : List ℕ = (put_on_line l kind number job).page in
    let a = put_lined text sd l kind number job s.full w in
    let g4 = a.below 4 (omega arith) (omega arith) in
    let g5 = a.below 5 (omega arith) (omega arith) in
    let g8 = a.between 8 (omega arith) (omega arith) in
    let g9 = a.between 9 (omega arith) (omega arith) in
    let g10 = a.between 10 (omega arith) (omega arith) in
    record {
      line = a.line;
      notes = notes_stay d l m s text
          (λ (i : ℕ) (u : 9 ≤ i) (v : i < 11). a.between i (omega (arith, u)) (omega (arith, v)))
          (λ (i : ℕ) (u : 19472 ≤ i) (v : i < 53264). a.above 53264 i (omega (arith, u)) v);
      unsent = omega (arith, a.unsent);
      low = a.below;
      sound =
          record {
            full = omega (arith, a.size_same, s.full);
            entries = omega (arith, a.count, a.room);
            decided = omega (arith, g8, s.decided);
            opened = omega (arith, g9, s.opened);
            notices = omega (arith, g10, s.notices);
            known = λ (j : ℕ). s.known j ∙ sym (decided_stays d l m s (λ (i : ℕ) (u : 8 ≤ i) (v : i < 9). a.between i u (omega (arith, v)))
                (λ (i : ℕ) (u : 3088 ≤ i) (v : i < 19472). a.above 19472 i u v) j);
            powered = omega (arith, g4, s.powered);
            rests = λ (e : get_or m 4 0 ≡ 2). g5 ∙ s.rests (sym g4 ∙ e);
          };
    }

-- ---- a call that sends

pub record SendsOne (text : Side → ℕ → Body) (sd : Side) (d : ℕ → Decision) (l m : List ℕ) (u : Call) (r : Holds) (job : ℕ) : Type 0 where
  pub page_is : page_of text sd d m ≡ page r (line_of text sd l ++ (entry_of text sd (kind_sent u) r.number job ∷ []))
      (notes_of text d l) (suc (get_or l 6 0)) (not (eqb (get_or l 5 0) 0)) (power_of (get_or l 4 0))
  pub sound : Sound d m

pub sends_one : (text : Side → ℕ → Body) (sd : Side) (d : ℕ → Decision) (l : List ℕ) (u : Call) (r : Holds) (job : ℕ)
    → Sound d l → (sent l u r job).rule ≡ 0
    → SendsOne text sd d l (sent l u r job).here u r job
unfolding sent
sends_one text sd d l u r job s h =
    let x : List ℕ = holding l r in
    let m : List ℕ = (put_on_line x (kind_sent u) r.number job).page in
    let n = held_sound d l r s in
    let high : Same l x 4 53264 = hold_same l r 53264 in
    let lists : Same l x 7 53264 = λ (i : ℕ) (p : 7 ≤ i) (v : i < 53264). high i (omega (arith, p)) v in
    let a = puts_one text sd d x (kind_sent u) r.number job n (roomy (put_on_line x (kind_sent u) r.number job).answer h) in
    record {
      page_is =
          page_path (held_same x m (λ (i : ℕ) (p : 0 ≤ i) (v : i < 4). a.low i p (omega (arith, v))) ∙ held_back l r
          (omega (arith, s.full)))
          (a.line ∙ ap (λ (t : List (Numbered Ent)). t ++ (entry_of text sd (kind_sent u) r.number job ∷ []))
          (low_line d l x s text sd lists))
          (a.notes ∙ low_notes d l x s text lists)
          (a.unsent ∙ ap suc (high 6 (omega arith) (omega arith)))
          (ap (λ (v : ℕ). not (eqb v 0)) (a.low 5 (omega arith) (omega arith) ∙ high 5 (omega arith) (omega arith)))
          (ap power_of (a.low 4 (omega arith) (omega arith) ∙ high 4 (omega arith) (omega arith)));
      sound = a.sound;
    }

-- ---- a job is decided

or_false : (a : Bool) → (a || false) ≡ a
or_false true = refl
or_false false = refl

or_true : (a : Bool) → (a || true) ≡ true
or_true true = refl
or_true false = refl

pub record Decides (text : Side → ℕ → Body) (sd : Side) (d f : ℕ → Decision) (l m : List ℕ) : Type 0 where
  pub held : held_in m ≡ held_in l
  pub line : line_of text sd m ≡ line_of text sd l
  pub opened_same : jobs_from m (get_or m 9 0) 19472 ≡ jobs_from l (get_or l 9 0) 19472
  pub notices_same' : notices_from m (get_or m 10 0) 20496 ≡ notices_from l (get_or l 10 0) 20496
  pub low : Same l m 0 8
  pub sound : Sound f m

module _ (text : Side → ℕ → Body) (sd : Side) (d : ℕ → Decision) (l : List ℕ) (job : ℕ) (c : Decision) (yes : is_decided c ≡ true) (s : Sound d l) (room : get_or l 8 0 < 16384) where
  abbrev m₀ : List ℕ
  m₀ = pushed_on l 8 3088 job

  member_there : member m₀ 3088 (get_or l 8 0) ≡ job
  member_there =
      let n : ℕ = get_or l 8 0 in
      let x : List ℕ = set l (3088 + n) job in
      let g : get_or m₀ (3088 + n) 0 ≡ job = get_other x 8 (3088 + n) (n + 1) (λ (e : 3088 + n ≡ 8). omega (arith, e)) ∙
      get_same l (3088 + n) job (omega (arith, s.full, room)) in
      ap (λ (v : Bool). cond (ltb 4294967296 3088) 0 (cond v 0 (get_or m₀ (3088 + n) 0))) (le-ltb 4294967296 n (omega (arith, room))) ∙ g

  among_more : (j : ℕ) → among m₀ 3088 (get_or m₀ 8 0) j ≡ (among l 3088 (get_or l 8 0) j || eqb job j)
  among_more j =
      let n : ℕ = get_or l 8 0 in
      let x : List ℕ = set l (3088 + n) job in
      let p = length-set l (3088 + n) job in
      let q : get_or m₀ 8 0 ≡ suc n = get_same x 8 (n + 1) (omega (arith, s.full, p)) ∙ omega arith in
      ap (λ (k : ℕ). among m₀ 3088 k j) q
      ∙ ap (λ (b : Bool). b || eqb (member m₀ 3088 n) j)
      (among_same l m₀ 3088 j n (λ (i : ℕ) (u : 3088 ≤ i) (v : i < 3088 + n). same_above x 8 (n + 1) 3088 (3088 + n)
      (omega arith) i u v ∙ same_below l (3088 + n) job 3088 i u v))
      ∙ ap (λ (v : ℕ). among l 3088 n j || eqb v j) member_there

  known_more : (j : ℕ) → is_decided (decide job c d j) ≡ among m₀ 3088 (get_or m₀ 8 0) j
  known_more j = go (eqb j job) refl ∙ sym (among_more j)
    where
      go : (b : Bool) → eqb j job ≡ b → is_decided (cond b c (d j)) ≡ (among l 3088 (get_or l 8 0) j || eqb job j)
      go true e = yes ∙ sym (ap (λ (v : Bool). among l 3088 (get_or l 8 0) j || v)
          (eq-eqb job j (sym (eqb-true j job e))) ∙ or_true (among l 3088 (get_or l 8 0) j))
      go false e = s.known j ∙ sym (ap (λ (v : Bool). among l 3088 (get_or l 8 0) j || v)
          (ne_eqb job j (λ (w : job ≡ j). eqb-false j job e (sym w))) ∙ or_false (among l 3088 (get_or l 8 0) j))

  decides_there : Decides text sd d (decide job c d) l m₀
  decides_there =
      let n : ℕ = get_or l 8 0 in
      let x : List ℕ = set l (3088 + n) job in
      let p = length-set l (3088 + n) job in
      let low : Same l m₀ 0 8 = λ (i : ℕ) (u : 0 ≤ i) (v : i < 8). same_below x 8 (n + 1) 0 i u v ∙ same_below l
      (3088 + n) job 0 i u (omega (arith, v)) in
      let mid : Same l m₀ 9 3088 = λ (i : ℕ) (u : 9 ≤ i) (v : i < 3088). same_above x 8 (n + 1) 9 3088 (omega arith) i
      u v ∙ same_below l (3088 + n) job 9 i u (omega (arith, v)) in
      let top : Same l m₀ 19472 53264 = λ (i : ℕ) (u : 19472 ≤ i) (v : i < 53264). same_above x 8 (n + 1) 19472 53264
      (omega arith) i u v ∙ same_above l (3088 + n) job 19472 53264 (omega (arith, room)) i u v in
      let q : get_or m₀ 8 0 ≡ n + 1 = get_same x 8 (n + 1) (omega (arith, s.full, p)) in
      let g4 = low 4 (omega arith) (omega arith) in
      let g5 = low 5 (omega arith) (omega arith) in
      let g7 = low 7 (omega arith) (omega arith) in
      let g9 = mid 9 (omega arith) (omega arith) in
      let g10 = mid 10 (omega arith) (omega arith) in
      let notes = notes_stay d l m₀ s text (λ (i : ℕ) (u : 9 ≤ i) (v : i < 11). mid i u (omega (arith, v))) top in
      record {
        held = held_same l m₀ (λ (i : ℕ) (u : 0 ≤ i) (v : i < 4). low i u (omega (arith, v)));
        line = line_stays d l m₀ s text sd (λ (i : ℕ) (u : 7 ≤ i) (v : i < 8). low i (omega arith) v)
            (λ (i : ℕ) (u : 16 ≤ i) (v : i < 3088). mid i (omega (arith, u)) v);
        opened_same = ap (λ (v : Notes). v.opened) notes;
        notices_same' = ap (λ (v : Notes). v.notices) notes;
        low = low;
        sound =
            record {
              full = omega (arith, p, length-set x 8 (n + 1), s.full);
              entries = omega (arith, g7, s.entries);
              decided = omega (arith, q, room);
              opened = omega (arith, g9, s.opened);
              notices = omega (arith, g10, s.notices);
              known = known_more;
              powered = omega (arith, g4, s.powered);
              rests = λ (e : get_or m₀ 4 0 ≡ 2). g5 ∙ s.rests (sym g4 ∙ e);
            };
      }

pub decides_one : (text : Side → ℕ → Body) (sd : Side) (d : ℕ → Decision) (l : List ℕ) (job : ℕ) (c : Decision)
    → is_decided c ≡ true → Sound d l
    → (pushed l 8 3088 16384 job).answer ≡ true → Decides text sd d (decide job c d) l (pushed l 8 3088 16384 job).page
decides_one text sd d l job c y s w =
    let a = put_pushed l 8 3088 16384 job w in
    subst (λ (m : List ℕ). Decides text sd d (decide job c d) l m) (sym a.page_is) (decides_there text sd d l job c y s a.room)

-- ---- a job is open

pub record Opens (text : Side → ℕ → Body) (sd : Side) (d : ℕ → Decision) (l m : List ℕ) (job : ℕ) : Type 0 where
  pub line : line_of text sd m ≡ line_of text sd l
  pub jobs : jobs_from m (get_or m 9 0) 19472 ≡ jobs_from l (get_or l 9 0) 19472 ++ (job ∷ [])
  pub notices_same' : notices_from m (get_or m 10 0) 20496 ≡ notices_from l (get_or l 10 0) 20496
  pub low : Same l m 0 9
  pub sound : Sound d m

module _ (text : Side → ℕ → Body) (sd : Side) (d : ℕ → Decision) (l : List ℕ) (job : ℕ) (s : Sound d l) (room : get_or l 9 0 < 1024) where
  abbrev o₀ : List ℕ
  o₀ = pushed_on l 9 19472 job

  opens_there : Opens text sd d l o₀ job
  opens_there =
      let n : ℕ = get_or l 9 0 in
      let x : List ℕ = set l (19472 + n) job in
      let p = length-set l (19472 + n) job in
      let low : Same l o₀ 0 9 = λ (i : ℕ) (u : 0 ≤ i) (v : i < 9). same_below x 9 (n + 1) 0 i u v ∙ same_below l
      (19472 + n) job 0 i u (omega (arith, v)) in
      let mid : Same l o₀ 10 (19472 + n) = λ (i : ℕ) (u : 10 ≤ i) (v : i < 19472 + n). same_above x 9 (n + 1) 10
      (19472 + n) (omega arith) i u v ∙ same_below l (19472 + n) job 10 i u v in
      let top : Same l o₀ 20496 53264 = λ (i : ℕ) (u : 20496 ≤ i) (v : i < 53264). same_above x 9 (n + 1) 20496 53264
      (omega arith) i u v ∙ same_above l (19472 + n) job 20496 53264 (omega (arith, room)) i u v in
      let q : get_or o₀ 9 0 ≡ n + 1 = get_same x 9 (n + 1) (omega (arith, s.full, p)) in
      let q' : get_or o₀ 9 0 ≡ suc n = q ∙ omega arith in
      let g : get_or o₀ (19472 + n) 0 ≡ job = get_other x 9 (19472 + n) (n + 1) (λ (e : 19472 + n ≡ 9). omega (arith, e))
      ∙ get_same l (19472 + n) job (omega (arith, s.full, room)) in
      let g4 = low 4 (omega arith) (omega arith) in
      let g5 = low 5 (omega arith) (omega arith) in
      let g7 = low 7 (omega arith) (omega arith) in
      let g8 = low 8 (omega arith) (omega arith) in
      let g10 = mid 10 (omega arith) (omega arith) in
      record {
        line = line_stays d l o₀ s text sd (λ (i : ℕ) (u : 7 ≤ i) (v : i < 8). low i (omega arith) (omega (arith, v)))
            (λ (i : ℕ) (u : 16 ≤ i) (v : i < 3088). mid i (omega (arith, u)) (omega (arith, v)));
        jobs =
            ap (λ (k : ℕ). jobs_from o₀ k 19472) q'
            ∙ jobs_more o₀ n 19472
            ∙ ap (λ (t : List ℕ). t ++ (get_or o₀ (19472 + n) 0 ∷ [])) (jobs_same l o₀ 10 (19472 + n) mid n 19472 (omega arith) (omega arith))
            ∙ ap (λ (v : ℕ). jobs_from l n 19472 ++ (v ∷ [])) g;
        notices_same' =
            ap (λ (k : ℕ). notices_from o₀ k 20496) g10
            ∙ notices_same l o₀ 20496 53264 top (get_or l 10 0) 20496 (omega arith) (omega (arith, s.notices));
        low = low;
        sound =
            record {
              full = omega (arith, p, length-set x 9 (n + 1), s.full);
              entries = omega (arith, g7, s.entries);
              decided = omega (arith, g8, s.decided);
              opened = omega (arith, q, room);
              notices = omega (arith, g10, s.notices);
              known = λ (j : ℕ). s.known j ∙ sym (decided_stays d l o₀ s
                  (λ (i : ℕ) (u : 8 ≤ i) (v : i < 9). low i (omega arith) v)
                  (λ (i : ℕ) (u : 3088 ≤ i) (v : i < 19472). mid i (omega (arith, u)) (omega (arith, v))) j);
              powered = omega (arith, g4, s.powered);
              rests = λ (e : get_or o₀ 4 0 ≡ 2). g5 ∙ s.rests (sym g4 ∙ e);
            };
      }

pub opens_one : (text : Side → ℕ → Body) (sd : Side) (d : ℕ → Decision) (l : List ℕ) (job : ℕ) → Sound d l
    → (pushed l 9 19472 1024 job).answer ≡ true → Opens text sd d l (pushed l 9 19472 1024 job).page job
opens_one text sd d l job s w =
    let a = put_pushed l 9 19472 1024 job w in
    subst (λ (m : List ℕ). Opens text sd d l m job) (sym a.page_is) (opens_there text sd d l job s a.room)
