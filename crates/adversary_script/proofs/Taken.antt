-- A line that was taken, from what its steps say.
use Rattle.std.proofs.Common.{◌≡◌, ℕ, List, true, Option, Some, Result, Ok, Err, refl, sym, ap}
use Rattle.std.specs.Prelude.{IfOk, IsErrAnd}
use Rattle.sync_types.specs.declared.answers.Rule.{Rule}
use Rattle.edge_io.specs.Taking.{Takes}
use Rattle.edge_io.specs.declared.taking.TakeError.{TakeError}
use Rattle.edge_io.specs.declared.taking.TakeError.TheVariants as take
use Rattle.adversary_script.specs.declared.kinds.Kind.{Kind}
use Rattle.adversary_script.specs.declared.kinds.Kind.TheVariants as kind
use Rattle.adversary_script.specs.Kinds.{may_follow}
use Rattle.adversary_script.specs.Scripts.{Script}
use Rattle.adversary_script.specs.Answers.{Adds}
use Rattle.adversary_script.specs.Steps.{line_step}
use Rattle.adversary_script.specs.ScriptPart.{ScriptSoFar, passed, read_as}

pub added_ok : {S U : Type 0} (r : Result S Rule) (new : S) (u : U) → Adds r new (Ok u) → r ≡ Ok new
added_ok (Ok s) new u same = ap Ok (sym same)
added_ok (Err e) new u none = absurd none

-- a line is passed in the same way if it counts as the last already
passed_again : (s : ScriptSoFar) (k : Kind) (script : Script) (final : ScriptSoFar)
    (out : Result (Option Script) (TakeError Rule))
    → Takes (passed (record s { last = Some k; script = script }) k (Ok script)) final out
    → Takes (passed s k (Ok script)) final out
passed_again s kind.End script final out takes = takes
passed_again s k script final out takes = takes

pub taken : {U : Type 0} (s : ScriptSoFar) (found : Option (Kind × List (List ℕ))) (k : Kind)
    (words : List (List ℕ)) (between final : ScriptSoFar) (u : U)
    (out : Result (Option Script) (TakeError Rule)) → found ≡ Some (k, words)
    → may_follow s.last k ≡ true → Adds (line_step s.faults k s.script words) between.script (Ok u)
    → between ≡ record s { last = Some k; script = between.script }
    → Takes (passed between k (Ok between.script)) final out → Takes (read_as s found) final out
taken s found k words between final u out is may adds same takes =
    let step = added_ok (line_step s.faults k s.script words) between.script u adds in
    let here : Takes
    (passed (record s { last = Some k; script = between.script }) k (Ok between.script)) final
    out = rw same at takes in
    rw (is, may, step) (passed_again s k between.script final out here)

refused_is : {S : Type 0} (U : Type 0) (r : Result S Rule) (new : S) (e : Rule)
    → Adds {U = U} r new (Err (take.Refused e)) → r ≡ Err e
refused_is U (Ok s) new e none = absurd none
refused_is U (Err rule) new e same = ap Err (sym same)

pub refused : (U : Type 0) (s : ScriptSoFar) (found : Option (Kind × List (List ℕ))) (k : Kind)
    (words : List (List ℕ)) (between : Script) (final : ScriptSoFar) (e : TakeError Rule)
    (out : Result (Option Script) (TakeError Rule)) → found ≡ Some (k, words)
    → may_follow s.last k ≡ true → Adds {U = U} (line_step s.faults k s.script words) between
    (Err e) → IsErrAnd out (λ given. given ≡ e) → Takes (read_as s found) final out
refused U s found k words between final e (Ok o) is may adds same = absurd same
refused U s found k words between final take.NoMemory (Err given) is may adds same = rw same tt
refused U s found k words between final (take.Refused rule) (Err given) is may adds same =
    let step = refused_is U (line_step s.faults k s.script words) between rule adds in
    rw (same, is, may, step) refl

-- what a line leaves if it was taken
pub left : (P : Script → Type 0) {U : Type 0} (r : Result Script Rule) (new : Script) (u : U)
    → Adds r new (Ok u) → IfOk r P → P new
left P r new u adds holds = rw (added_ok r new u adds) at holds
