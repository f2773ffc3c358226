-- Which status a call of `node` ends with, by how its node ended.
use Rattle.std.proofs.Common.{◌≡◌, Err, refl}
use Rattle.sync_types.specs.declared.answers.Premise.{Premise}
use Rattle.node_words.specs.declared.headers.HeaderRefusal.{HeaderRefusal}
use Rattle.node_words.specs.declared.headers.HeaderRefusal.TheVariants as header
use Rattle.node_words.specs.Rules.{header_line}
use Rattle.node_words.specs.declared.errors.NodeError.TheVariants as error
use Rattle.outcomes.specs.Refusals.{refusal_line, refusal_status}
use Rattle.outcomes.specs.NodeAnswers.{node_status}
use Rattle.outcomes.specs.PlanWords.{plan_words}
use Rattle.promises.specs.NodeStatuses.{header_refusal, StatusesAreMeant}

refused_too : (r : HeaderRefusal Premise)
    → node_status (Err (error.Refused r)) ≡ refusal_status (header_refusal r)
refused_too (header.Plan line premise) = refl
refused_too (header.Node line rule) = refl

line_of : (r : HeaderRefusal Premise) → header_line plan_words r ≡ refusal_line (header_refusal r)
line_of (header.Plan line premise) = refl
line_of (header.Node line rule) = refl

pub statuses_are_meant : StatusesAreMeant
statuses_are_meant = record {
  ok = λ count. refl;
  cut = λ packet sender. refl;
  too_long = refl;
  read_fault = refl;
  write_fault = refl;
  no_memory = refl;
  refused = refused_too;
  line = line_of;
}
