-- What the words ask for: without words a picture, and by `--page` a page.
use Rattle.std.specs.Prelude.{ℕ, List, [], ◌∷◌, Option, Some, None, codes, if◌then◌else◌}
use Rattle.std.specs.Str.{bytes_eq}
use Rattle.run_pictures.specs.declared.pages.Form.{Form}
use Rattle.run_pictures.specs.declared.pages.Form.TheVariants.{Picture, Page}

abbrev pub request_of : List (List ℕ) → Option Form
request_of [] = Some Picture
request_of (word ∷ []) = if bytes_eq word (codes "--page") then Some Page else None
request_of (word ∷ other ∷ words) = None
