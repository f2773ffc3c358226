-- What is known of a majority while some values are still to come.
use Rattle.std.specs.Prelude.{ℕ, List, Option, ⊤}
use Rattle.counting.specs.Unfinished.{MajorityStays}
use Rattle.majority_votes.specs.declared.tally.Outlook.{Outlook}
use Rattle.majority_votes.specs.declared.tally.Outlook.TheVariants as outlook

abbrev pub IsOutlook : (more : ℕ) → List (Option ℕ) → Outlook → Type 0
IsOutlook more values (outlook.Is majority) = MajorityStays more values majority
IsOutlook more values outlook.Open = ⊤
