-- Lines that are written where slots end are those that are defined by where slots begin.
use Rattle.std.proofs.Common.{◌≡◌, ℕ, suc, ◌+◌, ◌-◌, ◌%◌, Bool, true, false, cond, List, [], refl}
use Rattle.std.proofs.Common.{sym}
use Rattle.std.proofs.Common.{ap, ◌∙◌, subst, arith}
use Rattle.std.specs.Prelude.{◌==◌}
use Rattle.std.specs.List.{flat_map, range_with_len}
use Rattle.std.proofs.Math.Path.{fun_ext}
use Rattle.sync_types.specs.States.{State}
use Rattle.counter_core.specs.Meanings.{Meaning}
use Rattle.counter_core.specs.Overlays.{Layer}
use Rattle.adversary_script.specs.Scripts.{Script}
use Rattle.layer_laws.specs.Scenes.{Scene}
use Rattle.layer_runner.specs.Counting.{ErasCount}
use Rattle.layer_runner.specs.PlayedTexts.{Wording, line_of, scene_in, lines_text}
use Rattle.layer_runner.specs.SlotTexts.{counts_at, lead_output, ends_at, slot_lines}
use Rattle.layer_runner.proofs.Ending.{long_before}
use Rattle.layer_runner.proofs.LaterOutputs.{same_rest}
use Rattle.layer_runner.proofs.SlotShift.{lines_of_slots}

-- a slot that ends in a configuration began so many rounds before
pub ends_behind : (counter : Meaning) (script : Script) (q c : ℕ) (config : List State)
    → ends_at counter script q c config ≡ true → c ≡ c - q + q
ends_behind counter script q c config is =
    let long = long_before counter script q c config is in omega (arith, long)

module _ {Kept : Type 0} (counter : Meaning) (script : Script) (layer : Layer Kept)
    (began : List Kept) (q : ℕ) (wording : Wording Kept) (line : ℕ → List ℕ) where
  abbrev scene : ℕ → Scene Kept
  scene c = scene_in counter script layer began c

  abbrev config_at : ℕ → List State
  config_at c = (scene c).states

  -- the line that is written where a slot ends is that of the slot
  abbrev pub EndsAsBegun : Type 0
  EndsAsBegun = (c : ℕ) → ends_at counter script q c (config_at c) ≡ true
      → line_of wording counter script c (scene c) ≡ line (c - q)

  at_end : EndsAsBegun → (c : ℕ) (shown b : Bool) → shown ≡ b
      → ends_at counter script q c (config_at c) ≡ b
      → cond shown (line_of wording counter script c (scene c)) [] ≡ cond b (line (c - q)) []
  at_end ends c shown true same is = rw same (ends c is)
  at_end ends c shown false same is = rw same refl

  abbrev SameRest : (q t : ℕ) → Type 0
  SameRest q t = counts_at counter.bound script q t ≡ true
      → (lead_output counter script (t + q) (config_at (t + q)) % q == 0)
      ≡ (lead_output counter script t (config_at t) % q == 0)

  same : (p : ℕ) → suc p ≡ q → counter.modulus % q ≡ 0 → ErasCount counter script layer began
      → (t : ℕ) → SameRest q t
  same p is divides counts t =
      let divides : counter.modulus % suc p ≡ 0 =
      subst (λ q. counter.modulus % q ≡ 0) (sym is) divides in
      subst (λ q. SameRest q t) is (λ counting.
      same_rest counter script layer began counts p t counting divides)

  -- slots that divide the modulus of a counter that counts
  pub as_defined : (p : ℕ) → suc p ≡ q → counter.modulus % q ≡ 0
      → ErasCount counter script layer began
      → ((c : ℕ) → wording.shows counter script c (scene c)
      ≡ ends_at counter script q c (config_at c))
      → EndsAsBegun
      → lines_text counter script layer began wording ≡ slot_lines counter script q config_at line
  as_defined p is divides counts shows ends =
      ap (λ (g : ℕ → List ℕ). flat_map g (range_with_len 0 (script.rounds + 1)))
      (fun_ext (λ c. at_end ends c (wording.shows counter script c (scene c))
      (ends_at counter script q c (config_at c)) (shows c) refl))
      ∙ lines_of_slots counter script q config_at line (same p is divides counts)
