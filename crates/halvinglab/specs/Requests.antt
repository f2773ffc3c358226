-- What the words ask for: `plan`, `run`, `slots`, `consensus`, `fire`, `log` or `node`.
use Rattle.std.specs.Prelude.{ℕ, List, [], ◌∷◌, Option, Some, None, codes, if◌then◌else◌}
use Rattle.std.specs.Str.{bytes_eq}
use Rattle.halving_runs.specs.declared.shown.Shown.TheVariants as shown
use Rattle.halvinglab.specs.declared.requests.Request.{Request}
use Rattle.halvinglab.specs.declared.requests.Request.TheVariants as request
use Rattle.halvinglab.specs.declared.requests.Whole.TheVariants as whole

-- what a single word asks for
abbrev pub request_alone : List ℕ → Option Request
request_alone word =
    if bytes_eq word (codes "plan") then Some (request.Whole whole.Plan)
    else if bytes_eq word (codes "run") then Some (request.Whole (whole.Play shown.Rows))
    else if bytes_eq word (codes "slots") then Some (request.Whole (whole.Play shown.Holds))
    else if bytes_eq word (codes "consensus") then Some (request.Whole (whole.Play shown.Decisions))
    else if bytes_eq word (codes "fire") then Some (request.Whole (whole.Play shown.Fires))
    else if bytes_eq word (codes "log") then Some (request.Whole (whole.Play shown.Entries))
    else if bytes_eq word (codes "node") then Some request.Node
    else None

abbrev pub request_of : List (List ℕ) → Option Request
request_of (word ∷ []) = request_alone word
request_of words = None
