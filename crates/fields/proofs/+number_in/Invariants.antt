-- `number_in` calls itself for the rest of the number; the measure is how many bytes are still allowed.
use Rattle.fields.proofs.+number_in.Given as goal

abbrev pub decreases-number_in : goal.decreases-number_in
decreases-number_in l = l.most
