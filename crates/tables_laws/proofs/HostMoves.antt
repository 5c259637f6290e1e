-- The moves of the host alone: where the tables answer 0, they follow the model.
-- Assumes nothing.
use mathlib.Core.Path.{◌≡◌, refl, ap, sym, subst, ◌∙◌}
use mathlib.Core.Bool.{Bool, true, false, not, cond, ◌&&◌}
use mathlib.Core.List.{List, [], ◌∷◌}
use Prim.Native.Nat.{ℕ, zero, suc, ◌-◌, ◌≤◌, ◌<◌}
use native.Mathlib.Omega.{arith}
use borrow.Author.Tests.{eqb-true, eqb-false, ltb-false}
use lib.Dec.{eqb, ltb, eqb-suc-zero}
use lib.ListN.{get_or, set, length-set}
use Rattle.pair.specs.Names.{Side, other, is_idle}
use Rattle.pair.specs.Carrier.{Body}
use Rattle.pair.specs.Numbered.{Numbered, starter}
use Rattle.pair.proofs.ControlMachine.{Held, Ask}
use Rattle.duties.specs.Memory.{Decision, is_decided, tells, told_broken, told_ended}
use Rattle.duties.specs.Host.{Power, up, apart, down, Act, shows, release, acknowledge, connection_released, give_up, power_fails, cut_off}
use Rattle.moves_laws.specs.Pages.{Beside, is_released}
use Rattle.moves_laws.proofs.Machine.{rec_of}
use Rattle.moves_laws.proofs.Steps.{M, Page, page, Lands, shows_lands, shows_apart_lands, sends_lands, gives_up_lands, released_lands, acknowledges_lands, acknowledges_apart_lands, power_lands, power_apart_lands, power_down_lands, cut_lands, cut_down_lands, cut_apart_lands}
use Rattle.tables.specs.Tables.{state_of, held_in, among, told}
use Rattle.tables.specs.Steps.{One, one, as_rule, room, is_up_of, is_down, decided_in, shown_to, departed, acknowledged, released_by, gave_up, power_failed, cut_off_of}
use Rattle.tables.specs.Steps as steps
use Rattle.tables.proofs.Tables.{get_same, get_other}
use Rattle.tables_laws.proofs.Reading.{fate_in, power_of, line_from, line_of, notes_of, page_of, broken_of, Sound, Counted}
use Rattle.tables_laws.proofs.Places.{Same, same_then, same_below, same_above}
use Rattle.tables_laws.proofs.Effects.{never, held_same}
use Rattle.tables_laws.proofs.Follow.{past, upon, roomy, page_path, low_sound, low_line, low_notes, TellsAll, tells_all, move_of, Lands1, one_act, as_pages, Follows}

abbrev rule : One → ℕ
rule o = o.rule

-- ---- the power

abbrev pub live : Power → Bool
live up = true
live apart = true
live down = false

pub live_power : (x : ℕ) → x ≤ 2 → eqb x 2 ≡ false → live (power_of x) ≡ true
live_power zero h e = refl
live_power (suc zero) h e = refl
live_power (suc (suc zero)) h e = absurd (eqb-false 2 2 e refl)
live_power (suc (suc (suc n))) h e = absurd (omega (arith, h))

pub up_power : (l : List ℕ) → is_up_of l ≡ true → power_of (get_or l 4 0) ≡ up
up_power l h = ap power_of (eqb-true (get_or l 4 0) 0 h)

pub dead : {X : Type 0} → live down ≡ true → X
dead h = never h

-- ---- the record

pub idle_is : (m : List ℕ) → is_idle (held_in m).control ≡ eqb (get_or m 0 0) 0
unfolding held_in
idle_is m = go (get_or m 0 0)
  where
    go : (x : ℕ) → is_idle (record { state = state_of x; dsc = eqb (get_or m 1 0) 1 }) ≡ eqb x 0
    go zero = refl
    go (suc zero) = refl
    go (suc (suc zero)) = refl
    go (suc (suc (suc zero))) = refl
    go (suc (suc (suc (suc zero)))) = refl
    go (suc (suc (suc (suc (suc n))))) = sym (eqb-suc-zero (suc (suc (suc (suc n)))))

pub number_is : (m : List ℕ) → (held_in m).number ≡ get_or m 2 0
unfolding held_in
number_is m = refl

module _ (text : Side → ℕ → Body) (fresh : Side → Numbered Held) (from : Side) (sd : Side) (d e : ℕ → Decision) (l z b : List ℕ) (s : Sound d l) (t : Sound e z) (k : Counted b) where
  abbrev z₀ : Page
  z₀ = page_of text (other sd) e z

  -- a move of one act that changes this end alone
  pub alone_follows : (a : Act (Numbered Ask)) (m : List ℕ) (f : ℕ → Decision) (p q : Page) → Sound f m
      → page_of text sd d l ≡ p → page_of text sd f m ≡ q
      → Lands1 text fresh from sd p z₀ (broken_of b) a q z₀ (broken_of b) → Follows text fresh from sd d e l z b m z b
  alone_follows a m f p q n g h w =
      record {
        moves = move_of text fresh from sd a ∷ [];
        then = f;
        near = n;
        far = t;
        counted = k;
        makes =
            as_pages text fresh from sd (move_of text fresh from sd a ∷ []) (page_of text sd d l) p z₀ z₀
            (page_of text sd f m) q z₀ z₀ (broken_of b) (broken_of b) (broken_of b) g refl h refl refl
            (one_act text fresh from sd a p z₀ q z₀ (broken_of b) (broken_of b) w);
      }

  -- the page after the open jobs were told
  told_page : (m : List ℕ) (fate : ℕ) → TellsAll text sd d l m fate → {q : Power} → power_of (get_or l 4 0) ≡ q
      → page_of text sd d m ≡ page (held_in l) (line_of text sd l) (tells (fate_in fate) (notes_of text d l)) (get_or l 6 0)
      (not (eqb (get_or l 5 0) 0)) q
  told_page m fate a h =
      page_path (held_same l m (λ (i : ℕ) (u : 0 ≤ i) (v : i < 4). a.low i u (omega (arith, v)))) a.line a.notes
      (a.low 6 (omega arith) (omega arith))
      (ap (λ (v : ℕ). not (eqb v 0)) (a.low 5 (omega arith) (omega arith))) (ap power_of (a.low 4 (omega arith) (omega arith)) ∙ h)

  -- ---- the user was shown what was handed out

  shows_any : (q : Power) → live q ≡ true
      → Lands1 text fresh from sd (page (held_in l) (line_of text sd l) (notes_of text d l) (get_or l 6 0) (not (eqb (get_or l 5 0) 0)) q) z₀ (broken_of b) shows (page (held_in l) (line_of text sd l) (notes_of text d l) (get_or l 6 0) false q) z₀ (broken_of b)
  shows_any up h g j = shows_lands text fresh (starter from sd) sd (held_in l) (line_of text sd l) (notes_of text d l)
      (get_or l 6 0) (not (eqb (get_or l 5 0) 0)) z₀ (broken_of b) g j
  shows_any apart h g j = shows_apart_lands text fresh (starter from sd) sd (held_in l) (line_of text sd l)
      (notes_of text d l) (get_or l 6 0) (not (eqb (get_or l 5 0) 0)) z₀ (broken_of b) g j
  shows_any down h g j = dead h

  pub shown_follows : (shown_to l).rule ≡ 0 → Follows text fresh from sd d e l z b (shown_to l).here z b
  unfolding shown_to
  shown_follows h =
      let m : List ℕ = set l 5 0 in
      let x = past rule (is_down l) (one 3 l) (cond (eqb (get_or l 5 0) 0) (one 1 l) (one 0 m)) (λ (w : 3 ≡ 0). omega (arith, w)) h in
      let y = past rule (eqb (get_or l 5 0) 0) (one 1 l) (one 0 m) (λ (w : 1 ≡ 0). omega (arith, w)) (ap rule (sym x.1) ∙ h) in
      let low : Same l m 0 5 = same_below l 5 0 0 in
      let high : Same l m 6 53264 = same_above l 5 0 6 53264 (omega arith) in
      let lists : Same l m 7 53264 = same_above l 5 0 7 53264 (omega arith) in
      let g5 : get_or m 5 0 ≡ 0 = get_same l 5 0 (omega (arith, s.full)) in
      let g4 = low 4 (omega arith) (omega arith) in
      let n : Sound d m = low_sound d l m s lists (length-set l 5 0) (omega (arith, g4, s.powered)) (λ (w : get_or m 4 0 ≡ 2). g5) in
      subst (λ (o : One). Follows text fresh from sd d e l z b o.here z b) (sym (x.1 ∙ y.1))
      (alone_follows shows m d (page_of text sd d l) (page (held_in l) (line_of text sd l) (notes_of text d l) (get_or l 6 0) false (power_of (get_or l 4 0))) n refl
      (page_path (held_same l m (λ (i : ℕ) (u : 0 ≤ i) (v : i < 4). low i u (omega (arith, v)))) (low_line d l m s text sd lists) (low_notes d l m s text lists) (high 6 (omega arith) (omega arith))
      (ap (λ (v : ℕ). not (eqb v 0)) g5) (ap power_of g4))
      (shows_any (power_of (get_or l 4 0)) (live_power (get_or l 4 0) s.powered x.0)))

  -- ---- the oldest entry that has not left leaves

  pub left_follows : (departed l).rule ≡ 0 → Follows text fresh from sd d e l z b (departed l).here z b
  unfolding departed
  left_follows h =
      let m : List ℕ = set l 6 (get_or l 6 0 - 1) in
      let u : ℕ = get_or l 6 0 - 1 in
      let x = upon rule (is_up_of l) (cond (eqb (get_or l 6 0) 0) (one 1 l) (one 0 m)) (one 3 l) (λ (w : 3 ≡ 0). omega (arith, w)) h in
      let y = past rule (eqb (get_or l 6 0) 0) (one 1 l) (one 0 m) (λ (w : 1 ≡ 0). omega (arith, w)) (ap rule (sym x.1) ∙ h) in
      let low : Same l m 0 6 = same_below l 6 (get_or l 6 0 - 1) 0 in
      let lists : Same l m 7 53264 = same_above l 6 (get_or l 6 0 - 1) 7 53264 (omega arith) in
      let g4 = low 4 (omega arith) (omega arith) in
      let g5 = low 5 (omega arith) (omega arith) in
      let c : get_or l 6 0 ≡ suc u = omega (arith, eqb-false (get_or l 6 0) 0 y.0) in
      let n : Sound d m = low_sound d l m s lists (length-set l 6 (get_or l 6 0 - 1)) (omega (arith, g4, s.powered))
      (λ (w : get_or m 4 0 ≡ 2). g5 ∙ s.rests (sym g4 ∙ w)) in
      subst (λ (o : One). Follows text fresh from sd d e l z b o.here z b) (sym (x.1 ∙ y.1))
      (alone_follows release m d (page (held_in l) (line_of text sd l) (notes_of text d l) (suc u) (not (eqb (get_or l 5 0) 0)) up) (page (held_in l) (line_of text sd l) (notes_of text d l) u (not (eqb (get_or l 5 0) 0)) up) n
      (page_path refl refl refl c refl (up_power l x.0))
      (page_path (held_same l m (λ (i : ℕ) (u : 0 ≤ i) (v : i < 4). low i u (omega (arith, v)))) (low_line d l m s text sd lists) (low_notes d l m s text lists)
      (get_same l 6 (get_or l 6 0 - 1) (omega (arith, s.full))) (ap (λ (v : ℕ). not (eqb v 0)) g5) (ap power_of g4 ∙ up_power l x.0))
      (λ (g j : Beside). sends_lands text fresh (starter from sd) sd (held_in l) (line_of text sd l) (notes_of text d l) u
      (not (eqb (get_or l 5 0) 0)) z₀ (broken_of b) g j))

  -- ---- the power fails

  fails_any : (q : Power) (w : Bool) → (q ≡ down → w ≡ false)
      → Lands1 text fresh from sd (page (held_in l) (line_of text sd l) (notes_of text d l) (get_or l 6 0) w q) z₀ (broken_of b) power_fails (page (held_in l) (line_of text sd l) (notes_of text d l) (get_or l 6 0) false down) z₀ (broken_of b)
  fails_any up w h g j = power_lands text fresh (starter from sd) sd (held_in l) (line_of text sd l) (notes_of text d l)
      (get_or l 6 0) w z₀ (broken_of b) g j
  fails_any apart w h g j = power_apart_lands text fresh (starter from sd) sd (held_in l) (line_of text sd l)
      (notes_of text d l) (get_or l 6 0) w z₀ (broken_of b) g j
  fails_any down w h g j =
      subst (λ (v : Bool). Lands text fresh (starter from sd) sd
      (page (held_in l) (line_of text sd l) (notes_of text d l) (get_or l 6 0) v down) z₀ (broken_of b) power_fails
      (page (held_in l) (line_of text sd l) (notes_of text d l) (get_or l 6 0) false down) z₀ (broken_of b) g j)
      (sym (h refl))
      (power_down_lands text fresh (starter from sd) sd (held_in l) (line_of text sd l) (notes_of text d l) (get_or l 6 0)
      false z₀ (broken_of b) g j)

  pub power_follows : Follows text fresh from sd d e l z b (power_failed l).here z b
  unfolding power_failed
  power_follows =
      let x : List ℕ = set l 4 2 in
      let m : List ℕ = set x 5 0 in
      let low : Same l m 0 4 = λ (i : ℕ) (u : 0 ≤ i) (v : i < 4). same_below x 5 0 0 i u (omega (arith, v)) ∙ same_below l 4 2 0 i u v in
      let high : Same l m 6 53264 = same_then l x m 6 53264 (same_above l 4 2 6 53264 (omega arith))
      (same_above x 5 0 6 53264 (omega arith)) in
      let lists : Same l m 7 53264 = λ (i : ℕ) (u : 7 ≤ i) (v : i < 53264). high i (omega (arith, u)) v in
      let p = length-set l 4 2 in
      let g5 : get_or m 5 0 ≡ 0 = get_same x 5 0 (omega (arith, s.full, p)) in
      let g4 : get_or m 4 0 ≡ 2 = get_other x 5 4 0 (λ (w : 4 ≡ 5). omega (arith, w)) ∙ get_same l 4 2 (omega (arith, s.full)) in
      let n : Sound d m = low_sound d l m s lists (length-set x 5 0 ∙ p) (omega (arith, g4)) (λ (w : get_or m 4 0 ≡ 2). g5) in
      alone_follows power_fails m d (page_of text sd d l)
      (page (held_in l) (line_of text sd l) (notes_of text d l) (get_or l 6 0) false down) n refl
      (page_path (held_same l m low) (low_line d l m s text sd lists) (low_notes d l m s text lists)
      (high 6 (omega arith) (omega arith)) (ap (λ (v : ℕ). not (eqb v 0)) g5) (ap power_of g4))
      (fails_any (power_of (get_or l 4 0)) (not (eqb (get_or l 5 0) 0))
      (λ (w : power_of (get_or l 4 0) ≡ down). quiet (get_or l 4 0) s.powered refl w))
    where
      is_down_p : Power → Bool
      is_down_p up = false
      is_down_p apart = false
      is_down_p down = true

      quiet : (x : ℕ) → x ≤ 2 → get_or l 4 0 ≡ x → power_of x ≡ down → not (eqb (get_or l 5 0) 0) ≡ false
      quiet zero h c w = never (ap is_down_p w)
      quiet (suc zero) h c w = never (ap is_down_p w)
      quiet (suc (suc zero)) h c w = ap (λ (v : ℕ). not (eqb v 0)) (s.rests c)
      quiet (suc (suc (suc n))) h c w = absurd (omega (arith, h))

  -- ---- the open jobs are told as broken

  pub gives_up_follows : (gave_up l).rule ≡ 0 → Follows text fresh from sd d e l z b (gave_up l).here z b
  unfolding gave_up
  gives_up_follows h =
      let x = upon rule (is_up_of l) (as_rule (told l 3)) (one 3 l) (λ (w : 3 ≡ 0). omega (arith, w)) h in
      let m : List ℕ = (told l 3).page in
      let a = tells_all text sd d l 3 s (roomy (told l 3).answer (ap rule (sym x.1) ∙ h)) in
      subst (λ (o : One). Follows text fresh from sd d e l z b o.here z b) (sym x.1)
      (alone_follows give_up m d (page (held_in l) (line_of text sd l) (notes_of text d l) (get_or l 6 0) (not (eqb (get_or l 5 0) 0)) up) (page (held_in l) (line_of text sd l) (tells told_broken (notes_of text d l)) (get_or l 6 0) (not (eqb (get_or l 5 0) 0)) up) a.sound
      (page_path refl refl refl refl refl (up_power l x.0))
      (told_page m 3 a (up_power l x.0))
      (λ (g j : Beside). gives_up_lands text fresh (starter from sd) sd (held_in l) (line_of text sd l)
      (notes_of text d l) (get_or l 6 0) (not (eqb (get_or l 5 0) 0)) z₀ (broken_of b) g j))

  -- ---- a job that was decided is acknowledged

  acknowledges_any : (j : ℕ) → is_decided (d j) ≡ true → (q : Power) → live q ≡ true
      → Lands1 text fresh from sd (page (held_in l) (line_of text sd l) (notes_of text d l) (get_or l 6 0) (not (eqb (get_or l 5 0) 0)) q) z₀ (broken_of b) (acknowledge j) (page (held_in l) (line_of text sd l) (notes_of text d l) (get_or l 6 0) (not (eqb (get_or l 5 0) 0)) q) z₀ (broken_of b)
  acknowledges_any j a up h g i = acknowledges_lands text fresh (starter from sd) sd (held_in l) (line_of text sd l)
      (notes_of text d l) (get_or l 6 0) (not (eqb (get_or l 5 0) 0)) z₀ (broken_of b) g i j a
  acknowledges_any j a apart h g i = acknowledges_apart_lands text fresh (starter from sd) sd (held_in l)
      (line_of text sd l) (notes_of text d l) (get_or l 6 0) (not (eqb (get_or l 5 0) 0)) z₀ (broken_of b) g i j a
  acknowledges_any j a down h g i = dead h

  pub acknowledged_follows : (j : ℕ) → acknowledged l j ≡ 0 → Follows text fresh from sd d e l z b l z b
  unfolding acknowledged
  acknowledged_follows j h =
      let x = past (λ (v : ℕ). v) (is_down l) 3 (cond (decided_in l j) 0 1) (λ (w : 3 ≡ 0). omega (arith, w)) h in
      let y = upon (λ (v : ℕ). v) (decided_in l j) 0 1 (λ (w : 1 ≡ 0). omega (arith, w)) (sym x.1 ∙ h) in
      alone_follows (acknowledge j) l d (page_of text sd d l) (page_of text sd d l) s refl refl
      (acknowledges_any j (s.known j ∙ y.0) (power_of (get_or l 4 0)) (live_power (get_or l 4 0) s.powered x.0))

  -- ---- this host hears that the connection is lost

  cut_any : (q : Power) → (q ≡ apart → ⊥)
      → Lands1 text fresh from sd (page (held_in l) (line_of text sd l) (notes_of text d l) (get_or l 6 0) (not (eqb (get_or l 5 0) 0)) q) z₀ (broken_of b) cut_off (page (held_in l) (line_of text sd l) (tells told_broken (notes_of text d l)) 0 (not (eqb (get_or l 5 0) 0)) apart) z₀ (broken_of b)
  cut_any up h g j = cut_lands text fresh (starter from sd) sd (held_in l) (line_of text sd l) (notes_of text d l)
      (get_or l 6 0) (not (eqb (get_or l 5 0) 0)) z₀ (broken_of b) g j
  cut_any apart h g j = absurd (h refl)
  cut_any down h g j = cut_down_lands text fresh (starter from sd) sd (held_in l) (line_of text sd l) (notes_of text d l)
      (get_or l 6 0) (not (eqb (get_or l 5 0) 0)) z₀ (broken_of b) g j

  pub cut_follows : (cut_off_of l).rule ≡ 0 → Follows text fresh from sd d e l z b (cut_off_of l).here z b
  unfolding cut_off_of
  cut_follows h = go (eqb (get_or l 4 0) 1) refl h
    where
      m₀ : List ℕ
      m₀ = set (set l 4 1) 6 0

      is_apart : Power → Bool
      is_apart up = false
      is_apart apart = true
      is_apart down = false

      other_power : (x : ℕ) → eqb x 1 ≡ false → power_of x ≡ apart → ⊥
      other_power zero c w = never (ap is_apart w)
      other_power (suc zero) c w = eqb-false 1 1 c refl
      other_power (suc (suc n)) c w = never (ap is_apart w)

      go : (c : Bool) → eqb (get_or l 4 0) 1 ≡ c → (cond c (one 0 l) (as_rule (told m₀ 3))).rule ≡ 0
          → Follows text fresh from sd d e l z b (cond c (one 0 l) (as_rule (told m₀ 3))).here z b
      go true c w =
          let q : power_of (get_or l 4 0) ≡ apart = ap power_of (eqb-true (get_or l 4 0) 1 c) in
          let p : Page = page (held_in l) (line_of text sd l) (notes_of text d l) (get_or l 6 0) (not (eqb (get_or l 5 0) 0)) apart in
          alone_follows cut_off l d p p s (page_path refl refl refl refl refl q) (page_path refl refl refl refl refl q)
          (λ (g j : Beside). cut_apart_lands text fresh (starter from sd) sd (held_in l) (line_of text sd l)
          (notes_of text d l) (get_or l 6 0) (not (eqb (get_or l 5 0) 0)) z₀ (broken_of b) g j)
      go false c w =
          let x : List ℕ = set l 4 1 in
          let low : Same l m₀ 0 4 = λ (i : ℕ) (u : 0 ≤ i) (v : i < 4). same_below x 6 0 0 i u (omega (arith, v)) ∙
          same_below l 4 1 0 i u v in
          let lists : Same l m₀ 7 53264 = same_then l x m₀ 7 53264 (same_above l 4 1 7 53264 (omega arith))
          (same_above x 6 0 7 53264 (omega arith)) in
          let p = length-set l 4 1 in
          let g4 : get_or m₀ 4 0 ≡ 1 = get_other x 6 4 0 (λ (v : 4 ≡ 6). omega (arith, v)) ∙ get_same l 4 1 (omega (arith, s.full)) in
          let g5 : get_or m₀ 5 0 ≡ get_or l 5 0 = get_other x 6 5 0 (λ (v : 5 ≡ 6). omega (arith, v)) ∙ get_other l 4 5 1
          (λ (v : 5 ≡ 4). omega (arith, v)) in
          let g6 : get_or m₀ 6 0 ≡ 0 = get_same x 6 0 (omega (arith, s.full, p)) in
          let n : Sound d m₀ = low_sound d l m₀ s lists (length-set x 6 0 ∙ p) (omega (arith, g4))
          (λ (v : get_or m₀ 4 0 ≡ 2). absurd (omega (arith, v, g4))) in
          let a = tells_all text sd d m₀ 3 n (roomy (told m₀ 3).answer w) in
          alone_follows cut_off (told m₀ 3).page d (page_of text sd d l) (page (held_in l) (line_of text sd l)
          (tells told_broken (notes_of text d l)) 0 (not (eqb (get_or l 5 0) 0)) apart) a.sound refl
          (page_path (held_same m₀ (told m₀ 3).page (λ (i : ℕ) (u : 0 ≤ i) (v : i < 4). a.low i u (omega (arith, v))) ∙ held_same l m₀ low) (a.line ∙ low_line d l m₀ s text sd lists)
          (a.notes ∙ ap (tells told_broken) (low_notes d l m₀ s text lists)) (a.low 6 (omega arith) (omega arith) ∙ g6)
          (ap (λ (v : ℕ). not (eqb v 0)) (a.low 5 (omega arith) (omega arith) ∙ g5))
          (ap power_of (a.low 4 (omega arith) (omega arith) ∙ g4)))
          (cut_any (power_of (get_or l 4 0)) (other_power (get_or l 4 0) c))

  -- ---- the connection was released in order

  empty_line : (sd : Side) (m : List ℕ) → ltb 0 (get_or m 7 0) ≡ false → line_of text sd m ≡ []
  empty_line sd m h =
      let c : get_or m 7 0 ≡ 0 = omega (arith, ltb-false 0 (get_or m 7 0) h) in
      ap (λ (n : ℕ). line_from text sd m n 0) c

  pub released_follows : (released_by l z b).rule ≡ 0 → Follows text fresh from sd d e l z b (released_by l z b).here z b
  unfolding released_by
  released_follows h =
      let o6 : One = cond (among b 1 (get_or b 0 0) (get_or l 2 0)) (one 4 l) (as_rule (told l 2)) in
      let o5 : One = cond (steps.is_idle z) o6 (one 4 l) in
      let o4 : One = cond (steps.is_idle l) o5 (one 4 l) in
      let o3 : One = cond (ltb 0 (get_or z 7 0)) (one 4 l) o4 in
      let o2 : One = cond (ltb 0 (get_or l 7 0)) (one 4 l) o3 in
      let x1 = upon rule (is_up_of l) o2 (one 3 l) (λ (w : 3 ≡ 0). omega (arith, w)) h in
      let x2 = past rule (ltb 0 (get_or l 7 0)) (one 4 l) o3 (λ (w : 4 ≡ 0). omega (arith, w)) (ap rule (sym x1.1) ∙ h) in
      let x3 = past rule (ltb 0 (get_or z 7 0)) (one 4 l) o4 (λ (w : 4 ≡ 0). omega (arith, w)) (ap rule (sym (x1.1 ∙ x2.1)) ∙ h) in
      let x4 = upon rule (steps.is_idle l) o5 (one 4 l) (λ (w : 4 ≡ 0). omega (arith, w)) (ap rule (sym (x1.1 ∙ x2.1 ∙ x3.1)) ∙ h) in
      let x5 = upon rule (steps.is_idle z) o6 (one 4 l) (λ (w : 4 ≡ 0). omega (arith, w))
      (ap rule (sym (x1.1 ∙ x2.1 ∙ x3.1 ∙ x4.1)) ∙ h) in
      let x6 = past rule (among b 1 (get_or b 0 0) (get_or l 2 0)) (one 4 l) (as_rule (told l 2))
      (λ (w : 4 ≡ 0). omega (arith, w)) (ap rule (sym (x1.1 ∙ x2.1 ∙ x3.1 ∙ x4.1 ∙ x5.1)) ∙ h) in
      let all = x1.1 ∙ x2.1 ∙ x3.1 ∙ x4.1 ∙ x5.1 ∙ x6.1 in
      let m : List ℕ = (told l 2).page in
      let a = tells_all text sd d l 2 s (roomy (told l 2).answer (ap rule (sym all) ∙ h)) in
      let q = up_power l x1.0 in
      let pz : Page = page (held_in z) [] (notes_of text e z) (get_or z 6 0) (not (eqb (get_or z 5 0) 0)) (power_of (get_or z 4 0)) in
      let r : is_released M (rec_of (held_in l)) (rec_of (held_in z)) (broken_of b) ≡ true =
      ap (λ (v : Bool). v && (is_idle (held_in z).control && not (broken_of b (held_in l).number))) (idle_is l ∙ x4.0)
      ∙ ap (λ (v : Bool). v && not (broken_of b (held_in l).number)) (idle_is z ∙ x5.0)
      ∙ ap (λ (v : Bool). not v) (ap (broken_of b) (number_is l) ∙ x6.0) in
      let g : page_of text sd d l ≡ page (held_in l) [] (notes_of text d l) (get_or l 6 0) (not (eqb (get_or l 5 0) 0)) up =
      page_path refl (empty_line sd l x2.0) refl refl refl q in
      let g' : page_of text sd d m ≡ page (held_in l) [] (tells told_ended (notes_of text d l)) (get_or l 6 0) (not (eqb (get_or l 5 0) 0)) up =
      told_page m 2 a q ∙ page_path refl (empty_line sd l x2.0) refl refl refl refl in
      let w : z₀ ≡ pz = page_path refl (empty_line (other sd) z x3.0) refl refl refl refl in
      subst (λ (o : One). Follows text fresh from sd d e l z b o.here z b) (sym all)
      record {
        moves = move_of text fresh from sd connection_released ∷ [];
        then = d;
        near = a.sound;
        far = t;
        counted = k;
        makes =
            as_pages text fresh from sd (move_of text fresh from sd connection_released ∷ []) (page_of text sd d l)
            (page (held_in l) [] (notes_of text d l) (get_or l 6 0) (not (eqb (get_or l 5 0) 0)) up) z₀ pz
            (page_of text sd d m)
            (page (held_in l) [] (tells told_ended (notes_of text d l)) (get_or l 6 0) (not (eqb (get_or l 5 0) 0)) up) z₀
            pz (broken_of b) (broken_of b) (broken_of b) g w g' w refl
            (one_act text fresh from sd connection_released (page (held_in l) [] (notes_of text d l) (get_or l 6 0) (not (eqb (get_or l 5 0) 0)) up) pz (page (held_in l) [] (tells told_ended (notes_of text d l)) (get_or l 6 0) (not (eqb (get_or l 5 0) 0)) up) pz (broken_of b) (broken_of b)
            (λ (g j : Beside). released_lands text fresh (starter from sd) sd (held_in l) (notes_of text d l)
            (get_or l 6 0) (not (eqb (get_or l 5 0) 0)) (held_in z) (notes_of text e z) (get_or z 6 0)
            (not (eqb (get_or z 5 0) 0)) (power_of (get_or z 4 0)) (broken_of b) g j r));
      }
