-- `put_number` writes the decimal digits: those of a tenth of the number, and then its last digit. The measure is the number.
use Rattle.printing.proofs.+put_number.Given as goal

abbrev pub decreases-put_number : goal.decreases-put_number
decreases-put_number l = l.v
