use Rattle.std.proofs.Common.{ap, sym, ◌∙◌, ◌≡◌, ℕ, List, Some, ◌∷◌, []}
use Rattle.std.specs.Prelude.{slice_index}
use Rattle.texts.specs.Lines.{words_of}
use Rattle.plan_certificate.specs.TableLines.{numbers_named, level_names, level_stated}
use Rattle.plan_certificate.specs.TableLines.{without_spares}
use Rattle.plan_certificate.proofs.NamedNumbers.{length_named, with_zero}
use Rattle.plan_certificate.proofs.table_lines.level_stated.Goals as goal

of_version_1 : (words : List (List ℕ)) (n : List ℕ) → numbers_named level_names words ≡ Some n
    → Some (slice_index n 0 ∷ slice_index n 1 ∷ slice_index n 2 ∷ slice_index n 3 ∷ slice_index n 4
    ∷ slice_index n 5 ∷ slice_index n 6 ∷ slice_index n 7 ∷ slice_index n 8 ∷ slice_index n 9
    ∷ 0 ∷ []) ≡ level_stated 1 words
of_version_1 words n e =
    sym (ap without_spares e ∙ ap Some (with_zero n (length_named level_names words n e)))

pub returns-in_ok-n-clause-value : goal.returns-in_ok-n-clause-value
returns-in_ok-n-clause-value c =
    rw c.if-version-eq1.true (of_version_1 (words_of c.args.line.now) c.in_ok-n.n
    (ap (numbers_named level_names) (sym c.new-words.ensures) ∙ sym c.numbers_named.ensures
    ∙ c.in_ok-n.was))
