-- The lines of a log are those that are defined.
use Rattle.std.proofs.Common.{◌≡◌, ℕ, suc, ◌+◌, ◌-◌, ◌*◌, ◌%◌, ◌<◌, ◌≤◌, true, List, [], ◌∷◌, refl}
use Rattle.std.proofs.Common.{ap, ap₂, ◌∙◌, subst, arith}
use Rattle.std.specs.Prelude.{codes, replicate}
use Rattle.std.specs.List.{concat}
use Rattle.std.proofs.Math.Nat.{mul-mod_left}
use Rattle.std.proofs.lemmas.Nat.Gcd.{dvd_of_mod-eq-zero, mod-eq-zero_of_dvd, dvd_trans}
use Rattle.sync_types.specs.States.{State}
use Rattle.counter_core.specs.Meanings.{Meaning}
use Rattle.counter_core.specs.Overlays.{Layer}
use Rattle.adversary_script.specs.Scripts.{Script}
use Rattle.adversary_script.specs.Eras.{faulty_at}
use Rattle.machine_runner.specs.RunTexts.{bound_line, words_of}
use Rattle.layer_laws.specs.Numbers.{numbers_in}
use Rattle.layer_laws.specs.Scenes.{Scene}
use Rattle.layer_laws.specs.Slots.{slot_length}
use Rattle.replicated_log.specs.declared.entries.Entry.{Entry}
use Rattle.replicated_log.specs.EntryLength.{entry_length, owner_at}
use Rattle.replicated_log.specs.LogContent.{LogContent}
use Rattle.replicated_log.specs.Logs.{log_layer_over}
use Rattle.layer_runner.specs.LockTexts.{lock_lines}
use Rattle.layer_runner.specs.PlayedTexts.{lines_text}
use Rattle.layer_runner.specs.SlotTexts.{counts_at, lead_output, ends_at, slot_lines}
use Rattle.layer_runner.specs.Counting.{ErasCount}
use Rattle.layer_runner.specs.EntryTexts.{entry_word, entry_front, output_before}
use Rattle.layer_runner.specs.EntryTexts.{log_scene, slot_owner, entry_line, entry_wording}
use Rattle.layer_runner.specs.LineLaws.{EntriesAsDefined}
use Rattle.layer_runner.proofs.EntryRooms.{room_for_one}
use Rattle.layer_runner.proofs.Ending.{counting}
use Rattle.layer_runner.proofs.LaterOutputs.{later_output}
use Rattle.layer_runner.proofs.Owners.{owner_before}
use Rattle.layer_runner.proofs.SlotLaws.{ends_behind, as_defined}

-- a multiple of the entries of all nodes is one of an entry
each_divides : (m n e : ℕ) → m % (n * e) ≡ 0 → m % e ≡ 0
each_divides m n e whole =
    mod-eq-zero_of_dvd e (dvd_trans e (dvd_of_mod-eq-zero e (mul-mod_left n e))
    (dvd_of_mod-eq-zero (n * e) whole))

module _ (counter : Meaning) (script : Script) (said : LogContent)
    (whole : counter.modulus % (counter.nodes * entry_length counter.faults) ≡ 0)
    (counts : ErasCount counter script (log_layer_over (numbers_in counter) said)
    (replicate counter.nodes []))
  where
    abbrev n : ℕ
    n = counter.nodes

    abbrev f : ℕ
    f = counter.faults

    abbrev m : ℕ
    m = counter.modulus

    abbrev q : ℕ
    q = entry_length counter.faults

    abbrev layer : Layer (List Entry)
    layer = log_layer_over (numbers_in counter) said

    abbrev began : List (List Entry)
    began = replicate counter.nodes []

    abbrev scene : ℕ → Scene (List Entry)
    scene c = log_scene counter script said c

    abbrev config_at : ℕ → List State
    config_at c = (scene c).states

    abbrev lead_at : ℕ → ℕ
    lead_at c = lead_output counter script c (config_at c)

    nodes_and_modulus : (0 < n) × (0 < m)
    nodes_and_modulus =
        let quorum = counts.quorum in
        let two = counts.least in
        (omega (arith, quorum), omega (arith, two))

    room : q ≤ m
    room = room_for_one m n q nodes_and_modulus.1 nodes_and_modulus.0 whole

    length_is : suc (slot_length f) ≡ q
    length_is = omega arith

    -- ---- the owner

    abbrev GoesOn : ℕ → ℕ → Type 0
    GoesOn q t = counts_at counter.bound script q t ≡ true
        → lead_at (t + q) ≡ (lead_at t + q) % m

    goes_on : (t : ℕ) → GoesOn q t
    goes_on t = subst (λ q. GoesOn q t) length_is
        (later_output counter script layer began counts (slot_length f) t)

    -- the owner as it is found at the slot's end
    abbrev told_owner : ℕ → ℕ
    told_owner c = owner_at n f (output_before m q (lead_at c))

    owner_is : (c : ℕ) → ends_at counter script q c (config_at c) ≡ true
        → told_owner c ≡ slot_owner counter script said (c - q)
    owner_is c is =
        let here = ends_behind counter script q c (config_at c) is in
        let later = goes_on (c - q) (counting counter script q c (config_at c) is) in
        ap told_owner here
        ∙ (ap (λ o. owner_at n f (output_before m q o)) later
        ∙ owner_before m n f (lead_at (c - q)) nodes_and_modulus.1 nodes_and_modulus.0 room whole)

    -- ---- the lines

    -- the line of a slot that begins in configuration t, is of this owner, and ends in
    -- configuration d
    abbrev line_to : (t owner d : ℕ) → List ℕ
    line_to t owner d =
        concat (entry_front t owner
        ∷ words_of counter.nodes (entry_word (scene d)) (faulty_at script d) ∷ codes "\n" ∷ [])

    lines : lines_text counter script layer began (entry_wording n f m)
        ≡ slot_lines counter script q config_at (entry_line counter script said)
    lines = as_defined counter script layer began q (entry_wording n f m)
        (entry_line counter script said) (slot_length f) length_is (each_divides m n q whole) counts
        (λ c. refl)
        (λ c is. ap₂ (line_to (c - q)) (owner_is c is)
        (ends_behind counter script q c (config_at c) is))

pub entries_as_defined : EntriesAsDefined
entries_as_defined counter locked script said whole counts =
    ap (λ (text : List ℕ). concat (bound_line counter.bound ∷ text
    ∷ lock_lines locked script (λ c. (log_scene counter script said c).states) ∷ []))
    (lines counter script said whole counts)
