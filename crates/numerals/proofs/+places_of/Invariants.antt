-- One digit less at each call. The measure is the number of digits that are left.
use Rattle.numerals.proofs.+places_of.Given as goal

abbrev pub decreases-places_of : goal.decreases-places_of
decreases-places_of l = l.most
