use Rattle.worksheet.proofs.Offers.{search_finds_all_offers}
use Rattle.worksheet.proofs.theorems.search_finds_all_offers.Goals as goal

pub returns : goal.returns
returns c = search_finds_all_offers
