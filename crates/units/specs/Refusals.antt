-- The request's number and place of each refusal.
-- Assumes nothing.
use Rattle.std.specs.Prelude.{ℕ}
use Rattle.units.specs.declared.Refusal.{Refusal}
use Rattle.units.specs.declared.Refusal.TheVariants.{LongText, NoHeader, LineShape, LineValue, AfterRange, TooMany, LineOverlap, FewRows, NoPlan, ShortOutput, AskValue, SameNode, NoChain, TooLate, ShortChain, AskShape, NoContact, NotJoined, ExcludedNode, NotRanged, NotFitting, EndsElsewhere, BadClass, FullBook, NotOpen}

abbrev pub number_of : Refusal → ℕ
-- text over 65,536 bytes
number_of LongText = 1
-- first line is not the header with its line feed
number_of NoHeader = 2
-- line's shape: word, field count, blank, non-digit, leading zero, no line feed
number_of (LineShape line) = 3
-- a value outside its range, start not below end, nodes equal or out of order
number_of (LineValue line) = 4
-- contact line after a range line
number_of (AfterRange line) = 5
-- 513th contact or range
number_of (TooMany line) = 6
-- overlap with an earlier line
number_of (LineOverlap line) = 7
-- lent tables have fewer than 512 rows
number_of FewRows = 8
-- tables given are no valid plan
number_of NoPlan = 9
-- output shorter than the text needs
number_of (ShortOutput needed) = 10
-- ask: node, time, deadline, size or exclusion number out of range
number_of AskValue = 11
-- source equals destination
number_of SameNode = 12
-- no allowed chain at all
number_of NoChain = 13
-- allowed, but not in time
number_of TooLate = 14
-- lent chain has fewer than 63 places
number_of ShortChain = 15
-- ask line's shape (program)
number_of (AskShape line) = 17
-- walk: a number that names no contact
number_of (NoContact position) = 18
-- walk: a contact that is not from where the file is
number_of (NotJoined position) = 19
-- walk: a contact from the source to an excluded neighbour
number_of (ExcludedNode position) = 20
-- walk: a contact without a light time
number_of (NotRanged position) = 21
-- walk: a contact that the file does not fit
number_of (NotFitting position) = 22
-- walk: a chain that ends elsewhere, or is empty
number_of (EndsElsewhere position) = 23
-- class not 1 to 3
number_of BadClass = 24
-- all places of the book are open
number_of FullBook = 25
-- release of a booking that is not open
number_of NotOpen = 26

-- the line for 3 to 7 and 17, line 1 for 2, the needed length for 10, the position in the chain for 18 to 23, else 0
abbrev pub place_of : Refusal → ℕ
place_of LongText = 0
place_of NoHeader = 1
place_of (LineShape line) = line
place_of (LineValue line) = line
place_of (AfterRange line) = line
place_of (TooMany line) = line
place_of (LineOverlap line) = line
place_of FewRows = 0
place_of NoPlan = 0
place_of (ShortOutput needed) = needed
place_of AskValue = 0
place_of SameNode = 0
place_of NoChain = 0
place_of TooLate = 0
place_of ShortChain = 0
place_of (AskShape line) = line
place_of (NoContact position) = position
place_of (NotJoined position) = position
place_of (ExcludedNode position) = position
place_of (NotRanged position) = position
place_of (NotFitting position) = position
place_of (EndsElsewhere position) = position
place_of BadClass = 0
place_of FullBook = 0
place_of NotOpen = 0
