-- What `node` does is a call, whose text was written.
use Rattle.std.proofs.Common.{refl}
use Rattle.sync_types.specs.declared.status.Status.TheVariants as status
use Rattle.promises.specs.NodeCalls.{whole, failed, CallsWriteTexts}

pub calls_write : CallsWriteTexts
calls_write status.Ok all left left' before now old new did =
    record { call = whole did.input; read = did.read; wrote = did.wrote }
calls_write (status.Cut packet sender) all left left' before now old new did =
    record { call = whole did.input; read = did.read; wrote = did.wrote }
calls_write status.TooLong all left left' before now old new did =
    record { call = whole did.input; read = did.read; wrote = did.wrote }
calls_write status.ReadFault all left left' before now old new did =
    record { call = failed did.seen; read = (refl, did.read); wrote = did.wrote }
calls_write other all left left' before now old new did = absurd all
