use Rattle.picture_parts.proofs.Leads.{lead_kept, lead_tells}
use Rattle.picture_parts.proofs.laws.leads_tell_counts.Goals as goal

pub returns-clause-keeps : goal.returns-clause-keeps
returns-clause-keeps c = lead_kept

pub returns-clause-tells : goal.returns-clause-tells
returns-clause-tells c = lead_tells
