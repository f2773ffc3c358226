-- The stands that the lines of a certificate lead to are the stated ones.
use Rattle.std.proofs.Common.{◌≡◌, ℕ}
use Rattle.std.proofs.Common.{List, [], ◌∷◌, ◌++◌, map, Option, Some, None, refl, sym}
use Rattle.std.proofs.Common.{ap, ◌∙◌, append_assoc}
use Rattle.std.specs.List.{zip}
use Rattle.std.proofs.lemmas.List.{append-nil}
use Rattle.construction.specs.Plans.{plan_nodes}
use Rattle.sync_types.specs.States.{State}
use Rattle.run_checker.specs.Certificates.{Put, Lie, Era}
use Rattle.run_checker.specs.Grammar.{pairs_of}
use Rattle.run_checker.specs.Stated.{Snapshot, Message, told_by, stepped, with_starts, stand_behind}
use Rattle.run_checker.specs.Checking.{Known, put_state, moved, renewed, attributed}
use Rattle.run_checker.proofs.Complete.{put_all, all_lies, lie_state, behind}
use Rattle.run_checker.proofs.Tests.{pair_of}

-- ---- the stands are the stated ones

pub put_all_stand : (k : Known) (puts : List Put)
    → (put_all k puts).stand
    ≡ record { faulty = k.stand.faulty; config = with_starts k.plan k.stand.config puts }
put_all_stand k [] = refl
put_all_stand k (put ∷ puts) = put_all_stand (put_state k put.node put.digits) puts

all_lies_are : (k : Known) (told : List State) (lies : List Lie)
    → all_lies k told lies ≡ told ++ map (lie_state k) lies
all_lies_are k told [] = sym (append-nil told)
all_lies_are k told (lie ∷ lies) =
    all_lies_are k (told ++ lie_state k lie ∷ []) lies
    ∙ append_assoc told (lie_state k lie ∷ []) (map (lie_state k) lies)

abbrev joins : (ℕ × ℕ) × State → Message
joins (pair, state) = record { sender = pair.0; receiver = pair.1; state = state }

attributed_to : (k : Known) (lies : List Lie)
    → map joins (zip (map pair_of lies) (map (lie_state k) lies)) ≡ map (told_by k.plan) lies
attributed_to k [] = refl
attributed_to k (lie ∷ lies) = ap (λ l. told_by k.plan lie ∷ l) (attributed_to k lies)

attributed_are : (k : Known) (lies : List Lie)
    → map pair_of lies ≡ pairs_of (plan_nodes k.plan) k.stand.faulty
    → attributed (plan_nodes k.plan) k.stand.faulty (all_lies k [] lies) ≡ map (told_by k.plan) lies
attributed_are k lies is =
    ap (λ l. map joins (zip (pairs_of (plan_nodes k.plan) k.stand.faulty) l))
    (all_lies_are k [] lies)
    ∙ ap (λ l. map joins (zip l (map (lie_state k) lies))) (sym is) ∙ attributed_to k lies

pub stand_moved : (k : Known) (faulty : List ℕ) (lies : List Lie)
    → map pair_of lies ≡ pairs_of (plan_nodes k.plan) k.stand.faulty
    → (moved k faulty (all_lies k [] lies)).stand
    ≡ record
    { faulty = faulty; config = stepped k.plan faulty k.stand (map (told_by k.plan) lies) }
stand_moved k faulty lies is =
    ap
    (λ (told : List Message). record {
      faulty = faulty;
      config = stepped k.plan faulty k.stand
          told;
    })
    (attributed_are k lies is)

pub stand_turned : (k : Known) (lies : List Lie) (era : Option Era) (row : List (Option ℕ))
    → map pair_of lies ≡ pairs_of (plan_nodes k.plan) k.stand.faulty
    → (behind k (all_lies k [] lies) era row).stand
    ≡ stand_behind k.plan k.stand (record { lies = lies; era = era; row = row })
stand_turned k lies None row is = stand_moved k k.stand.faulty lies is
stand_turned k lies (Some era) row is =
    put_all_stand (renewed k era.faulty (all_lies k [] lies)) era.starts
    ∙ ap
    (λ (s : Snapshot). record
    { faulty = s.faulty; config = with_starts k.plan s.config era.starts })
    (stand_moved k era.faulty lies is)
