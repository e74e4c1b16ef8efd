use Rattle.iom_blk.specs.Requests.{data_count, data_address, data_length, writable, readable}
use Rattle.std.proofs.Common.{rules}
use Rattle.iom_blk.proofs.request.BlockRequest.data_piece.Goals as goal

pub returns-then-is_in-clause-count : goal.returns-then-is_in-clause-count
unfolding readable writable data_length data_address data_count
returns-then-is_in-clause-count c = search rules

pub returns-then-is_in-clause-short : goal.returns-then-is_in-clause-short
unfolding readable writable data_length data_address data_count
returns-then-is_in-clause-short c = search rules
