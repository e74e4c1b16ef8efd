-- The meaning of a request: VIRTIO 1.2, "Block Device", "Device Operation". Its header is struct virtio_blk_req's first 16 bytes;
-- its last writable byte is the status.
use Rattle.std.specs.Prelude.{ℕ, ◌+◌, ◌-◌, ◌*◌, ◌/◌, ◌%◌, ◌==◌, ◌&&◌, ◌||◌, Bool, not, List, length, take, drop, min, nat_le, nat_lt, if◌then◌else◌}
use Rattle.iom_bits.specs.Bits.{has_bit}
use Rattle.iom_bits.specs.Bytes.{number_of_bytes}
use Rattle.iom_virtq.specs.declared.parts.Side.TheVariants.{Readable, Writable}
use Rattle.iom_virtq.specs.Chains.{DescriptorChain, Item, bytes_on, address_of, run_length}

-- `count` bytes from a place on as a number, the lowest byte first
unfoldable pub number_at : List ℕ → ℕ → ℕ → ℕ
number_at bytes at count = number_of_bytes (take count (drop at bytes))

-- le32 type, le32 reserved, le64 sector
abbrev pub kind_of : List ℕ → ℕ
kind_of header = number_at header 0 4

abbrev pub sector_of : List ℕ → ℕ
sector_of header = number_at header 8 8

-- VIRTIO_BLK_T_IN: the device writes its data; VIRTIO_BLK_T_OUT: it reads them; VIRTIO_BLK_T_FLUSH
abbrev pub is_in : List ℕ → Bool
is_in header = kind_of header == 0

abbrev pub is_out : List ℕ → Bool
is_out header = kind_of header == 1

abbrev pub is_flush : List ℕ → Bool
is_flush header = kind_of header == 4

-- how many bytes the device reads, and how many it writes
unfoldable pub readable : DescriptorChain → ℕ
readable chain = length (bytes_on chain Readable)

unfoldable pub writable : DescriptorChain → ℕ
writable chain = length (bytes_on chain Writable)

-- how many data bytes there are: of an IN all writable bytes but the status byte, of an OUT all readable bytes after the header
unfoldable pub data_length : List ℕ → DescriptorChain → ℕ
data_length header chain =
    if is_in header then writable chain - 1 else if is_out header then readable chain - 16 else 0

abbrev pub moves : List ℕ → Bool
moves header = is_in header || is_out header

-- whether data may be moved: they are whole sectors, all of them on the disk, and no OUT to a read-only disk
unfoldable pub is_served : List ℕ → DescriptorChain → ℕ → Bool → Bool
is_served header chain sectors read_only =
    data_length header chain % 512 == 0 && nat_le (sector_of header + data_length header chain / 512) sectors
    && not (read_only && is_out header)

-- whether there are data to move
unfoldable pub moves_data : List ℕ → DescriptorChain → ℕ → Bool → Bool
moves_data header chain sectors read_only =
    moves header && is_served header chain sectors read_only && nat_lt 0 (data_length header chain)

-- the status byte: VIRTIO_BLK_S_OK 0, VIRTIO_BLK_S_IOERR 1, VIRTIO_BLK_S_UNSUPP 2. A FLUSH is served if VIRTIO_BLK_F_FLUSH, bit 9,
-- was accepted
unfoldable pub status_of : List ℕ → DescriptorChain → ℕ → Bool → ℕ → ℕ
status_of header chain sectors read_only features =
    if moves header then (if is_served header chain sectors read_only then 0 else 1)
    else if is_flush header && has_bit features 9 then 0
    else 2

-- "The Virtqueue Used Ring", len: how many bytes were written from the first writable one on without a gap: all, if the data of an
-- IN were moved or the status byte is the only writable one, else none
unfoldable pub used_length : List ℕ → DescriptorChain → ℕ → ℕ
used_length header chain answer = if (is_in header && answer == 0) || writable chain == 1 then writable chain else 0

-- the header bytes that are still to be read; then the address and the length of the next piece of them
abbrev pub header_left : List ℕ → DescriptorChain → List Item
header_left header chain = drop (length header) (bytes_on chain Readable)

unfoldable pub header_address : List ℕ → DescriptorChain → ℕ
header_address header chain = address_of (header_left header chain)

unfoldable pub header_count : List ℕ → DescriptorChain → ℕ
header_count header chain = min (run_length (header_left header chain)) (16 - length header)

-- the data bytes that are still to be moved, after `position` bytes; then the address and the length of the next piece of them
abbrev pub data_left : List ℕ → DescriptorChain → ℕ → List Item
data_left header chain position =
    if is_in header then drop position (bytes_on chain Writable) else drop (16 + position) (bytes_on chain Readable)

unfoldable pub data_address : List ℕ → DescriptorChain → ℕ → ℕ
data_address header chain position = address_of (data_left header chain position)

unfoldable pub data_count : List ℕ → DescriptorChain → ℕ → ℕ
data_count header chain position = min (run_length (data_left header chain position)) (data_length header chain - position)

-- the address of the status byte
unfoldable pub status_address : DescriptorChain → ℕ
status_address chain = address_of (drop (writable chain - 1) (bytes_on chain Writable))

-- the place on the disk of the data after `position` bytes
abbrev pub place : List ℕ → ℕ → ℕ
place header position = sector_of header * 512 + position
