-- What is written for `--help` and `--version`.
use Rattle.std.specs.Prelude.{ℕ, List, [], ◌∷◌, codes}
use Rattle.std.specs.List.{concat}

abbrev pub help_text : List ℕ
help_text = concat (
    codes "usage: halvinglab plan < PLAN, halvinglab run < PLAN_AND_SCRIPT,\n"
    ∷ codes "halvinglab slots < PLAN_SLOTS_AND_SCRIPT,\n"
    ∷ codes "halvinglab consensus < PLAN_INPUTS_AND_SCRIPT,\n"
    ∷ codes "halvinglab fire < PLAN_REQUESTS_AND_SCRIPT,\n"
    ∷ codes "halvinglab log < PLAN_LOG_AND_SCRIPT,\n"
    ∷ codes "or halvinglab node < HEADER_AND_PACKETS\n"
    ∷ codes "plan: reads a halving plan, the lines `halving 1`, `group N F C` and\n"
    ∷ codes "`end`, and writes its table: its numbers and bound, what a state\n"
    ∷ codes "takes, a line for each group, from all nodes down to single ones, and\n"
    ∷ codes "one for each node, with its bytes and where the output stands in them.\n"
    ∷ codes "run: reads a halving plan and a script for it, plays the script, and\n"
    ∷ codes "writes the bound, a row of what the nodes show in each configuration\n"
    ∷ codes "that is shown, and which configuration is the first locked one.\n"
    ∷ codes "slots: the same with a slot table between plan and script, and with a\n"
    ∷ codes "line of which nodes hold in place of a row.\n"
    ∷ codes "consensus, fire, log: the same with what is to be agreed on between plan\n"
    ∷ codes "and script, and in place of rows a line of each slot that begins later\n"
    ∷ codes "than the bound in its era and ends in it: what the nodes decided, which\n"
    ∷ codes "of them fire, or the slot's owner and what they put into their logs.\n"
    ∷ codes "node: reads a halving plan and the lines `node 1`, `id V`, `state H` and\n"
    ∷ codes "`end`, and then packets, and writes the state of node V at the start\n"
    ∷ codes "and behind each packet, as bytes.\n" ∷ [])

abbrev pub version_text : List ℕ
version_text = codes "halvinglab 2.0\n"
