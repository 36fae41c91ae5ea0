-- Every definition that the answers compute with: to unfold an answer is to unfold these too, so that `refl` computes it on a list.
use mathlib.Core.List.{flat_map}
use Rattle.wire.specs.Numbers.{le, le_bytes, each, words_bytes}
use Rattle.wire.specs.Kinds.{buckets_from}
use Rattle.wire.specs.Order.{cmp, pos_less}
use Rattle.wire.specs.Fields.{fields_after, size, whole}
use Rattle.wire.specs.Encode.{head_bytes, encode_field, encode, pos_bytes, key_start, key_body}
use Rattle.wire.specs.Output.{put}
use Rattle.wire.specs.Rows.{signed_bytes, row_body, signed_read, row_of}
use Rattle.format.specs.Packing.{pack, unpack, struct_bytes, get, store}
use Rattle.format.specs.AllocV4.{flags_word, flags_of, new_alloc, with_dirty, next_gen, emptied_flags, emptied, discarded_flags, discarded}
use Rattle.format.specs.Entries.{pointer, crc32, crc64, csum_type_of, checksum_entry, extent_words}
use Rattle.format.specs.Backpointer.{backpointer}
use Rattle.format.specs.Gens.{gen_in, with_gen, no_gens}
use Rattle.format.specs.Lru.{fragmentation}
use Rattle.calls.specs.Lists.{all_of, any_of, those, last_or, in_order, total, largest}
use Rattle.calls.specs.Sorting.{insert, into}
use Rattle.calls.specs.CallList.{head_of, head_body, piece_of, freed_of, piece_body, freed_body, bodies, keys_of, sorted_trees, reserved_of, call_list_of, shaped, volume_shapes, request_shapes, head_ok, laid_out, call_laid_out, volume_laid_out, list_laid_out, none_twice, tree_fields, reserved_field, volume_fields, volume_bytes, call_bytes}
use Rattle.calls.specs.Limits.{few_keys, counts_ok, buckets_ok, volume_within, list_within, buckets_within}
use Rattle.calls.specs.Trees.{lookup, upsert, remove, step, apply_queue}
use Rattle.calls.specs.Freespace.{is_in, runs_of, buckets_of, free_count, wanted, overlap, overlaps, is_used, pass, shortened, walk}
use Rattle.calls.specs.Generations.{gen_record, gen_lookup, gen_of, gen_short, gen_key, gen_queued}
use Rattle.calls.specs.JointLookup.{up_to_past, keys_visited, joint_lookup}
use Rattle.calls.specs.Clock.{clocked, clock_of}
use Rattle.calls.specs.Pieces.{next_fit, buckets_needed, kind_listed, block_of, divides, piece_sized}
use Rattle.calls.specs.Extents.{bucket_at, placed_at, extent_key, backpointer_key}
use Rattle.calls.specs.Lru.{lru_keys, lru_deletions, lru_wanted, need_discard_key}
use Rattle.calls.specs.Accounting.{counted_rows, swapped}
use Rattle.calls.specs.ChangeList.{tags_ascend, spot_body, batch_fields, change_fields, change_bytes, split_batches, change_shapes, root_listed, field_ok, closed, change_laid_out, spot_of, batch_of, changes_of}
use Rattle.calls.specs.Buckets.{insert_bucket, insert_buckets, remove_bucket, remove_buckets}
use Rattle.calls.specs.Refusals.{verdict}
use Rattle.calls.specs.Place.{root_missing, slots_of, walk_of, placed_of, dirty_in, new_alloc_key, place_rows, place_batch, place_tests}
use Rattle.calls.specs.Release.{freed_ok, freed_buckets, freed_in, alloc_value, dirty_at, is_emptied, bucket_refusal, release_tests, released_key, released_lru, emptied_gen, gens_queued, unused_change, release_rows, release_batch}
use Rattle.calls.specs.Discard.{waiting_key, gen_taken, is_discarded, discarded_keys, chunks, join_run, joined_runs, waiting_deletions, discard_batch, discard_batches}
use Rattle.calls.specs.Apply.{apply_trees, set_roots, with_roots, apply_batch, apply_batches}

unfoldable pub computing : Type 0
unfolding flat_map le le_bytes each words_bytes buckets_from cmp pos_less fields_after size whole head_bytes encode_field encode pos_bytes key_start key_body put signed_bytes row_body signed_read row_of pack unpack struct_bytes get store flags_word flags_of new_alloc with_dirty next_gen emptied_flags emptied discarded_flags discarded pointer crc32 crc64 csum_type_of checksum_entry extent_words backpointer gen_in with_gen no_gens fragmentation all_of any_of those last_or in_order total largest head_of head_body piece_of freed_of bodies keys_of insert into sorted_trees reserved_of call_list_of shaped volume_shapes request_shapes tags_ascend head_ok laid_out call_laid_out volume_laid_out list_laid_out none_twice tree_fields reserved_field volume_fields volume_bytes piece_body freed_body call_bytes few_keys counts_ok buckets_ok volume_within list_within buckets_within lookup upsert remove step apply_queue is_in runs_of buckets_of free_count wanted overlap overlaps is_used pass shortened walk gen_record gen_lookup gen_of gen_short gen_key gen_queued up_to_past keys_visited joint_lookup clocked clock_of next_fit buckets_needed kind_listed block_of divides piece_sized bucket_at placed_at extent_key backpointer_key lru_keys lru_deletions lru_wanted need_discard_key counted_rows swapped spot_body batch_fields change_fields change_bytes split_batches change_shapes root_listed field_ok closed change_laid_out spot_of batch_of changes_of insert_bucket insert_buckets remove_bucket remove_buckets verdict root_missing slots_of walk_of placed_of dirty_in new_alloc_key place_rows place_batch place_tests freed_ok freed_buckets freed_in alloc_value dirty_at is_emptied bucket_refusal release_tests released_key released_lru emptied_gen gens_queued unused_change release_rows release_batch waiting_key gen_taken is_discarded discarded_keys chunks join_run joined_runs waiting_deletions discard_batch discard_batches apply_trees set_roots with_roots apply_batch apply_batches
computing = Unit {0}
