-- What a release is given by the reader: its volume and its requests.
use Rattle.std.specs.Prelude.{◌≡◌, true, ◌≤◌, ◌<◌, List, [], length}
use Rattle.wire.specs.Keys.{Key}
use Rattle.calls.specs.CallList.{Head, Volume, Freed}
use Rattle.calls.specs.Lists.{all_of}
use Rattle.calls.specs.Release.{freed_ok}
use Rattle.reader.specs.Heads.{head_in}
use Rattle.reader.specs.ListedKeys.{keys_listed}
use Rattle.release_sums.specs.Freeds.{Requested, freeds_in}
use Rattle.reader.specs.declared.read_list.ReadList.{ReadList}

-- what a release reads of a volume: its head, its alloc keys and its generation records
abbrev pub volume_of : Head → List Key → List Key → Volume
volume_of h alloc gens =
    record {
      head = h;
      trees = record { alloc = alloc; lru = []; freespace = []; need_discard = []; backpointers = []; gens = gens };
      reserved = [];
    }

-- those that it is given
abbrev pub volume_in : ReadList → Volume
volume_in r = volume_of (head_in r.head) (keys_listed r.alloc) (keys_listed r.gens)

abbrev pub requests_in : ReadList → List Freed
requests_in r = freeds_in r.list.now r.requests.now

-- the requests that refusals 4 and 14 passed
pub record RequestsChecked (r : ReadList) : Type 0 where
  pub requested : Requested r.list.now r.requests.now
  pub few : length r.requests.now ≤ 1024
  pub small : r.head.bucket_sectors < 65536
  pub checked : all_of (freed_ok r.head.bucket_sectors) (requests_in r) ≡ true
