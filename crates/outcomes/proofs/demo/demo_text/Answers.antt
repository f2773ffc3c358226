use Rattle.std.proofs.Common.{◌≡◌, ◌++◌, ℕ, List, Result, Ok, Err, refl, ◌∙◌, append_assoc, codes}
use Rattle.std.specs.Prelude.{IfOk, String}
use Rattle.std.specs.Int.{w64, to_be_bytes}
use Rattle.std.specs.String.{string_bytes}
use Rattle.hex.specs.Hex.{encode_lower}
use Rattle.outcomes.specs.declared.demo.Liars.{Liars}
use Rattle.outcomes.specs.DemoText.{liars_of, faulty_line, lie_line, text_with, demo_text}
use Rattle.outcomes.proofs.demo.demo_text.Goals as goal

-- a text that has some bytes has those that are equal to them
has_bytes : {A E : Type 0} (result : Result (String A) E) (bytes text : List ℕ)
    → IfOk result (λ s. string_bytes s ≡ bytes) → bytes ≡ text
    → IfOk result (λ s. string_bytes s ≡ text)
has_bytes (Ok s) bytes text h e = h ∙ e
has_bytes (Err error) bytes text h e = tt

-- the text with these lines and digits
joined : (faulty digits first second third : List ℕ) → List ℕ
joined faulty digits first second third =
    codes "plan 1\nbase 2304\nlevel 4 1 960\nlevel 3 3 10\nend\nscript 1\n"
    ++ (faulty ++ (codes "seed " ++ (digits
    ++ (codes "000000000000000000000000000000000000000000000000\nstart noise\n"
    ++ (first ++ (second ++ (third ++ codes "rounds 3364\nshow 3360 3364\nend\n")))))))

joined_is : (liars : Liars) (digits : List ℕ)
    → joined (faulty_line liars) digits (lie_line liars.first) (lie_line liars.second)
    (lie_line liars.third)
    ≡ text_with liars (digits ++ codes "000000000000000000000000000000000000000000000000")
unfolding joined
joined_is liars digits = simp append_assoc

-- what is said of each piece
pieces_are : (seed : ℕ) (liars : Liars) (bytes faulty digits first second third : List ℕ)
    → liars ≡ liars_of seed → bytes ≡ to_be_bytes w64 seed
    → faulty ≡ faulty_line liars → digits ≡ encode_lower bytes
    → first ≡ lie_line liars.first → second ≡ lie_line liars.second → third ≡ lie_line liars.third
    → joined faulty digits first second third ≡ demo_text seed
pieces_are seed liars bytes faulty digits first second third l b f d x y z =
    rw (f, d, x, y, z) (joined_is liars (encode_lower bytes) ∙ rw (l, b) refl)

pub returns : goal.returns
unfolding joined
returns c =
    has_bytes c.format.result _ (demo_text c.args.seed) c.format.ensures.ok
    (pieces_are c.args.seed c.liars_of-liars.result c.to_be_bytes.result
    (string_bytes c.in_ok-faulty.faulty) (string_bytes c.in_ok-digits.digits)
    (string_bytes c.in_ok-first.first) (string_bytes c.in_ok-second.second)
    (string_bytes c.in_ok-third.third)
    c.liars_of-liars.ensures c.to_be_bytes.ensures c.in_ok-faulty.ensures c.in_ok-digits.ensures
    c.in_ok-first.ensures c.in_ok-second.ensures c.in_ok-third.ensures)
