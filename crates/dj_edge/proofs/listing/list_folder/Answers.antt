use Rattle.std.proofs.Common.{map, string_bytes}
use Rattle.dj_edge.proofs.Once.{listing_from_once}
use Rattle.dj_edge.proofs.listing.list_folder.Goals as goal

pub returns : goal.returns
returns g c = record {
  unchanged = c.files_below.ensures.unchanged;
  lists = record {
    found = map string_bytes c.in_ok-found.found.items;
    walk = c.in_ok-found.ensures.walks;
    listing = c.in_ok-listing_of.ensures;
  };
  listing = listing_from_once c.args.folder.now (map string_bytes c.in_ok-found.found.items) c.args.most (map string_bytes c.in_ok-listing_of.field-0.items) c.in_ok-listing_of.ensures;
}
