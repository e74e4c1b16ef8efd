use Rattle.std.proofs.Common.{◌≡◌, length, map, sym, ◌∙◌}
use Rattle.std.proofs.lemmas.List.{length-map}
use Rattle.iom_image.specs.Own.{chunk_seen, disk_seen, image_seen}
use Rattle.iom_image.proofs.Fitting.{few_bytes, few_chunks, all_fit}
use Rattle.iom_image.proofs.Pushes.{written}
use Rattle.iom_image.proofs.writing.image_bytes.Goals as goal

pub push_head-requires-clause-chunks : goal.push_head-requires-clause-chunks
push_head-requires-clause-chunks c =
    let len : c.len.result ≡ length (map chunk_seen c.args.image.now.chunks.entries) = c.len.ensures.len ∙ sym (length-map c.args.image.now.chunks.entries chunk_seen) in
    rw len (few_chunks (image_seen c.args.image.now) c.requires)

pub push_chunks-requires : goal.push_chunks-requires
push_chunks-requires c = few_bytes _ c.requires

pub push_disks-requires : goal.push_disks-requires
push_disks-requires c = rw c.deref.ensures.value (all_fit _ c.requires)

pub returns : goal.returns
returns c =
    let image = c.args.image.now in
    let chunks : c.len.result ≡ length (map chunk_seen image.chunks.entries) = c.len.ensures.len ∙ sym (length-map image.chunks.entries chunk_seen) in
    let disks : c.len-2.result ≡ length (map disk_seen image.disks.items) = c.len-2.ensures ∙ image.disks.ok.0 ∙ sym (length-map image.disks.items disk_seen) in
    written (image_seen image) _ _ _ _ _ _ c.new-out.ensures.items chunks disks c.in_ok-push_head.ensures c.in_ok-push_chunks.ensures (rw (c.deref.ensures.value, c.is_flagged.ensures) at c.in_ok-push_disks.ensures)
