-- What a node does is a call, whose text was written.
use Rattle.std.proofs.Common.{Ok, Err, refl}
use Rattle.node_words.specs.declared.errors.NodeError.TheVariants as error
use Rattle.node_words.specs.Constructions.{Words}
use Rattle.node_words.specs.Calls.{whole, failed, CallsWriteTexts}

pub calls_write : {Reader Plan Premise : Type 0} (words : Words Reader Plan Premise)
    → CallsWriteTexts words
calls_write words (Ok count) all left left' before now old new did =
    record { call = whole did.input; read = did.read; wrote = did.wrote }
calls_write words (Err (error.Cut packet sender)) all left left' before now old new did =
    record { call = whole did.input; read = did.read; wrote = did.wrote }
calls_write words (Err error.TooLong) all left left' before now old new did =
    record { call = whole did.input; read = did.read; wrote = did.wrote }
calls_write words (Err error.ReadFault) all left left' before now old new did =
    record { call = failed did.seen; read = (refl, did.read); wrote = did.wrote }
calls_write words (Err error.WriteFault) all left left' before now old new did = absurd all
calls_write words (Err error.NoMemory) all left left' before now old new did = absurd all
calls_write words (Err (error.Refused refusal)) all left left' before now old new did = absurd all
