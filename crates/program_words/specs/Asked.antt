-- What words ask for: `--help` and `--version`, alone, for what they say, and all others for what
-- the program takes them for.
use Rattle.std.specs.Prelude.{ℕ, List, [], ◌∷◌, Option, Some, None, codes, if◌then◌else◌}
use Rattle.std.specs.Str.{bytes_eq}
use Rattle.program_words.specs.declared.asked.Asked.{Asked}
use Rattle.program_words.specs.declared.asked.Asked.TheVariants as asked

module _ {Q : Type 0} where
  abbrev pub for_request : Option Q → Asked Q
  for_request None = asked.Nothing
  for_request (Some request) = asked.Request request

  -- what a single word asks for
  abbrev pub asked_alone : List ℕ → Option Q → Asked Q
  asked_alone word request =
      if bytes_eq word (codes "--help") then asked.Help
      else if bytes_eq word (codes "--version") then asked.Version
      else for_request request

  abbrev pub asked_by : List (List ℕ) → Option Q → Asked Q
  asked_by [] request = for_request request
  asked_by (word ∷ []) request = asked_alone word request
  asked_by (word ∷ next ∷ words) request = for_request request

  -- if it is a request, that has this
  abbrev pub IfRequest : Asked Q → (Q → Type 0) → Type 0
  IfRequest (asked.Request request) holds = holds request
  IfRequest asked.Help holds = Unit {0}
  IfRequest asked.Version holds = Unit {0}
  IfRequest asked.Nothing holds = Unit {0}
