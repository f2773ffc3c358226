-- The eras of a script. Era 0 begins with configuration 0, each further one where its line says,
-- and each goes on to the next one; the last to the end.
use Rattle.std.specs.Prelude.{ℕ, ◌+◌, nat_le, nat_lt, List, [], ◌∷◌, length, map, slice_index}
use Rattle.std.specs.Prelude.{slice_index_or, if◌then◌else◌}
use Rattle.std.specs.List.{count_by}
use Rattle.adversary_script.specs.declared.lies.Start.{Start}
use Rattle.adversary_script.specs.Scripts.{Script, firsts, faulty_sets}

module _ (s : Script) where
  -- the era of configuration t: how many further ones have begun by then
  abbrev pub era_of : ℕ → ℕ
  era_of t = count_by (λ first. nat_le first t) (map (λ era. era.first) s.eras)

  abbrev pub first_of_era : ℕ → ℕ
  first_of_era j = slice_index (firsts s) j

  -- the first configuration after era j
  abbrev pub end_of_era : ℕ → ℕ
  end_of_era j = if nat_lt j (length s.eras) then first_of_era (j + 1) else s.rounds + 1

  abbrev pub faulty_of_era : ℕ → List ℕ
  faulty_of_era j = slice_index_or (faulty_sets s) j []

  -- the faulty nodes of configuration t, and of the round that begins with it
  abbrev pub faulty_at : ℕ → List ℕ
  faulty_at t = faulty_of_era (era_of t)

  -- the start lines of era j
  abbrev pub starts_of_era : ℕ → List Start
  starts_of_era j = slice_index_or (s.starts ∷ map (λ era. era.starts) s.eras) j []
