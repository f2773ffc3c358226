-- What is written for `--help` and `--version`.
use Rattle.std.specs.Prelude.{ℕ, List, [], ◌∷◌, codes}
use Rattle.std.specs.List.{concat}

abbrev pub help_text : List ℕ
help_text = concat (
    codes "usage: draw < TEXT > PICTURE.svg\n       draw --page < TEXT > PAGE.html\n"
    ∷ codes "Draws what `counterlab run`, `trace`, `sweep` or `choose` writes, in SVG. Of a run\n"
    ∷ codes "or a trace: a column for each configuration and a line of cells for each node; of\n"
    ∷ codes "a trace each level or group, with the kings' turns. Of a sweep: bars of how many\n"
    ∷ codes "runs lock when. Of a choice: a point for each plan, by its nodes and its bound.\n"
    ∷ codes "With --page it writes a page for a browser, which says of what is under the\n"
    ∷ codes "pointer what the text says of it.\n" ∷ [])

abbrev pub version_text : List ℕ
version_text = codes "draw 2.0\n"
