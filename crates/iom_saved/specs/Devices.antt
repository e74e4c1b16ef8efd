-- The words of a block device: VIRTIO 1.2, "Virtio Over MMIO", "Block Device".
use Rattle.std.specs.Prelude.{ℕ, List, [], ◌∷◌, ◌++◌}
use Rattle.iom_bits.specs.Bits.{flag}
use Rattle.iom_blk.specs.Device.{Device}
use Rattle.iom_saved.specs.Bytes.{words_of_bytes}
use Rattle.iom_saved.specs.Histories.{number_words}
use Rattle.iom_saved.specs.Requests.{broken_words, chain_words, phase_words}

-- what the driver wrote; how many requests were taken and given back; whether the disk is read-only, the queue ready, and notified
abbrev pub front_words : Device → List ℕ
front_words d = d.features_sel ∷ d.driver_sel ∷ d.features ∷ d.queue_sel ∷ d.interrupts ∷ d.status
    ∷ d.size ∷ d.desc ∷ d.avail ∷ d.used_ring ∷ d.seen ∷ d.used
    ∷ flag d.read_only ∷ flag d.ready ∷ flag d.pending ∷ []

-- its request as far as it was read, with its result
abbrev pub own_request_words : Device → List ℕ
own_request_words d = chain_words d.chain ++ (number_words d.header ++ (d.head ∷ d.answer ∷ d.used_length ∷ []))

-- why it broke, the purpose of its next access, and its request
abbrev pub progress_words : Device → List ℕ
progress_words d = broken_words d.broken ++ (phase_words d.phase ++ own_request_words d)

abbrev pub device_words : Device → List ℕ
device_words d = (front_words d ++ progress_words d) ++ words_of_bytes d.disk
