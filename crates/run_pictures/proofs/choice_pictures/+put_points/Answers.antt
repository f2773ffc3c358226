use Rattle.std.proofs.Common.{◌≡◌, ℕ, ◌-◌, ◌<◌, ◌≤◌, suc, List, [], ◌∷◌, length, take, drop, get_or}
use Rattle.std.proofs.Common.{arith}
use Rattle.std.proofs.lemmas.List.{take_all}
use Rattle.texts.specs.Growth.{SinkState}
use Rattle.edge_io.specs.Writing.{Writes}
use Rattle.edge_io.specs.declared.writer.Writer.{Writer}
use Rattle.edge_io.proofs.Writing.{writes_none, writes_then}
use Rattle.run_pictures.specs.declared.choices.Point.{Point}
use Rattle.run_pictures.specs.ChoicePictures.{last_behind, numbers_top, point_at, points_picture}
use Rattle.run_pictures.proofs.choice_pictures.+put_points.Goals as goal

no_points : {K : Type 0} {told : K → SinkState} {x : Writer K} (base last : ℕ)
    (points : List Point) → length points < 1 → Writes told (points_picture base last points) x x
no_points base last [] few = writes_none
no_points base last (point ∷ points) few = absurd (omega arith)

one_more : {K : Type 0} {told : K → SinkState} {x y z : Writer K} (base last : ℕ)
    (points : List Point) (d : Point) → 1 ≤ length points
    → Writes told (point_at base (numbers_top base last (get_or points 0 d)) (get_or points 0 d))
    x y
    → Writes told (points_picture base (last_behind base last (get_or points 0 d))
    (take (length points - 1) (drop 1 points))) y z
    → Writes told (points_picture base last points) x z
one_more base last [] d some one rest = absurd (omega arith)
one_more base last (point ∷ points) d some one rest =
    let all : take (suc (length points) - 1) points ≡ points = take_all _ points (omega arith) in
    writes_then one (rw all at rest)

pub returns-in-empty : goal.returns-in-empty
returns-in-empty g t c =
    no_points c.args.base c.args.last c.args.points.now c.in-empty.len_below

pub returns-in-len1-up : goal.returns-in-len1-up
returns-in-len1-up g t c =
    let numbers = c.numbers_top-numbers.ensures.value in
    one_more c.args.base c.args.last c.args.points.now _ c.in-len1-up.len_at_least
    (rw numbers at c.put_point.ensures)
    (rw (c.last_behind.ensures.value, numbers) at c.put_points.ensures)
