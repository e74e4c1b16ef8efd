-- What a watched reader and a watched writer have noted.
use Rattle.std.specs.Prelude.{Bool}
use Rattle.iom_reader.specs.declared.watched.WatchedReader.{WatchedReader}
use Rattle.iom_reader.specs.declared.watched.WatchedWriter.{WatchedWriter}

-- a read failed
abbrev pub read_failed : {R : Type 0} → WatchedReader R → Bool
read_failed reader = reader.failed

-- a write or a flush failed
abbrev pub write_failed : {W : Type 0} → WatchedWriter W → Bool
write_failed writer = writer.failed

-- all that was written is flushed
abbrev pub is_flushed : {W : Type 0} → WatchedWriter W → Bool
is_flushed writer = writer.flushed
