-- What a text states that is checked true, and that what is recorded of a script is checked true.
use Rattle.std.specs.Prelude.{◌≡◌, ℕ, ◌+◌, ◌^◌, ◌≤◌, List, ◌∷◌, ◌++◌, length, map, Option, None, Ok}
use Rattle.construction.specs.Plans.{Plan}
use Rattle.construction.specs.Runs.{Run}
use Rattle.adversary_script.specs.Scripts.{Script}
use Rattle.round_runner.specs.Laws.{IsReadFor}
use Rattle.round_runner.specs.Locks.{era_locked, first_locked}
use Rattle.round_runner.specs.Played.{played_at}
use Rattle.run_checker.specs.declared.Verdict.TheVariants as verdict
use Rattle.run_checker.specs.Certificates.{Turn, Certificate, certificate_text}
use Rattle.run_checker.specs.Grammar.{IsCertificate}
use Rattle.run_checker.specs.Stated.{first_stand, stands_behind, first_difference, verdict_of}
use Rattle.run_checker.specs.Recorded.{certificate_of, HasItsEras}
use Rattle.run_checker.specs.Laws.{AreQuiet, StretchCounts, stand_after}
use Rattle.run_checker.specs.Checking.{checked}
use Rattle.run_checker.specs.Checks.{checked_within}

-- A stretch of rounds after which no era begins is a run of the plan, with the stated lies, and its
-- rows count from the plan's bound on, which is counted from its first configuration.
pub record IsTrueStretch (c : Certificate) (before stretch : List Turn) : Type 0 where
  pub run : Run c.plan (stand_after c.plan (first_stand c) before).faulty
      (map (λ stand. stand.config) (stand_after c.plan (first_stand c) before
      ∷ stands_behind c.plan (stand_after c.plan (first_stand c) before) stretch))
  pub counts : StretchCounts c before stretch

-- The text is that of a certificate with so many rows. Each of them is what its configuration of
-- the stated run shows.
pub record IsTrueText (rows : ℕ) (text : List ℕ) : Type 0 where
  pub certificate : Certificate
  pub is : IsCertificate certificate
  pub text_is : text ≡ certificate_text certificate
  pub rows_are : rows ≡ length certificate.turns + 1
  pub shown : first_difference certificate ≡ None
  pub stretches : (before stretch after : List Turn)
      → certificate.turns ≡ before ++ (stretch ++ after) → AreQuiet stretch
      → IsTrueStretch certificate before stretch

-- a text that is checked true is such a text
abbrev pub TrueTextsAreTrue : Type 0
TrueTextsAreTrue = (text : List ℕ) (rows : ℕ) (locked : Option ℕ)
    → checked text ≡ Ok (verdict.True rows locked) → IsTrueText rows text

-- the most bytes that a certificate may have
abbrev pub most_bytes : ℕ
most_bytes = 2 ^ 44

-- no certificate has more bytes than it may have
abbrev pub CertificatesAreShort : Type 0
CertificatesAreShort =
    (c : Certificate) → IsCertificate c → length (certificate_text c) ≤ most_bytes

-- so each comes to its verdict under that limit
abbrev pub ShortTextsAreChecked : Type 0
ShortTextsAreChecked = (c : Certificate) → IsCertificate c
    → checked_within most_bytes (certificate_text c) ≡ Ok (verdict_of c)

-- the certificate of a script's run is checked true, with the first locked configuration of the
-- last era
abbrev pub RecordsAreCheckedTrue : Type 0
RecordsAreCheckedTrue = (plan : Plan) (s : Script) → IsReadFor plan s → HasItsEras s
    → checked_within most_bytes (certificate_text (certificate_of plan s))
    ≡ Ok (verdict.True (s.rounds + 1)
    (first_locked (era_locked plan s (played_at plan s) (length s.eras)) s.rounds))
