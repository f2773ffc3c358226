-- Rising ids, by places.
use Rattle.std.proofs.Common.{◌≡◌, ℕ, ◌<◌, List, length, sym, ap, ◌∙◌}
use Rattle.std.specs.Prelude.{slice_index}
use Rattle.std.specs.List.Sorted.{IsStrictlyIncreasing}
use Rattle.shared_board.specs.Sharing.{place_among}
use Rattle.shared_board.proofs.Ids.{place_of_id}

-- rising ids have each id in one place
pub same_place : (ids : List ℕ) → IsStrictlyIncreasing ids → (k j : ℕ) → k < length ids
    → j < length ids → slice_index ids k ≡ slice_index ids j → k ≡ j
same_place ids rising k j klt jlt same =
    sym (place_of_id ids rising k klt) ∙ ap (place_among ids) same ∙ place_of_id ids rising j jlt
