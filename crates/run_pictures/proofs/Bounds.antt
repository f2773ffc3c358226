-- A bound after all columns.
use Rattle.std.proofs.Common.{◌≡◌, ℕ, ◌+◌, ◌≤◌, Bool, true, false, ◌&&◌, List, [], refl, ap, ◌∙◌}
use Rattle.std.specs.Prelude.{if◌then◌else◌, nat_le, nat_lt, Option}
use Rattle.std.proofs.lemmas.Bool.{le-ltb}
use Rattle.run_pictures.specs.declared.charts.Chart.{Chart}
use Rattle.run_pictures.specs.Charts.{frame_of}
use Rattle.run_pictures.specs.Pictures.{bound_at, has_column, is_before}

and_false : (b : Bool) → (b && false) ≡ false
and_false true = refl
and_false false = refl

no_column : (first columns t : ℕ) → first + columns ≤ t
    → (nat_le first t && nat_lt t (first + columns)) ≡ false
no_column first columns t far =
    ap (λ (b : Bool). nat_le first t && b) (le-ltb t (first + columns) far)
    ∙ and_false (nat_le first t)

drawn_nowhere : (before has : Bool) (text : List ℕ) → has ≡ false
    → (if before then (if has then text else []) else []) ≡ []
drawn_nowhere true has text fails = rw fails refl
drawn_nowhere false has text fails = refl

-- a bound after all columns is not drawn
pub bound_behind : (chart : Chart) (t : ℕ) (next : Option ℕ) → chart.first + chart.rows ≤ t
    → bound_at chart t next ≡ []
bound_behind chart t next far =
    drawn_nowhere (is_before t next) (has_column (frame_of chart) t) _
    (no_column chart.first chart.rows t far)
