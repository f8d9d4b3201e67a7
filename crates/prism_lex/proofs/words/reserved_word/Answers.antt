use Rattle.std.proofs.Common.{arith}
use Rattle.prism_lex.specs.Words.{words}
use Rattle.prism_lex.proofs.Tables.{word_of_length, word_of_no_length}
use Rattle.prism_lex.proofs.words.reserved_word.Goals as goal

pub returns-in-1 : goal.returns-in-1
unfolding words
returns-in-1 c = word_of_length _ _ 1 c.in-1.is c.find.ensures

pub returns-in-2 : goal.returns-in-2
unfolding words
returns-in-2 c = word_of_length _ _ 2 c.in-2.is c.find-in-2.ensures

pub returns-in-3 : goal.returns-in-3
unfolding words
returns-in-3 c = word_of_length _ _ 3 c.in-3.is c.find-in-3.ensures

pub returns-in-4 : goal.returns-in-4
unfolding words
returns-in-4 c = word_of_length _ _ 4 c.in-4.is c.find-in-4.ensures

pub returns-in-5 : goal.returns-in-5
unfolding words
returns-in-5 c = word_of_length _ _ 5 c.in-5.is c.find-in-5.ensures

pub returns-in-6 : goal.returns-in-6
unfolding words
returns-in-6 c = word_of_length _ _ 6 c.in-6.is c.find-in-6.ensures

pub returns-in-7 : goal.returns-in-7
unfolding words
returns-in-7 c = word_of_length _ _ 7 c.in-7.is c.find-in-7.ensures

pub returns-in-9 : goal.returns-in-9
unfolding words
returns-in-9 c = word_of_length _ _ 9 c.in-9.is c.find-in-9.ensures

pub returns-in-10 : goal.returns-in-10
unfolding words
returns-in-10 c = word_of_length _ _ 10 c.in-10.is c.find-in-10.ensures

pub returns-in-11 : goal.returns-in-11
unfolding words
returns-in-11 c = word_of_length _ _ 11 c.in-11.is c.find-in-11.ensures

pub returns-in-12 : goal.returns-in-12
unfolding words
returns-in-12 c = word_of_length _ _ 12 c.in-12.is c.find-in-12.ensures

pub returns-in-13 : goal.returns-in-13
unfolding words
returns-in-13 c = word_of_length _ _ 13 c.in-13.is c.find-in-13.ensures

pub returns-in-14 : goal.returns-in-14
unfolding words
returns-in-14 c = word_of_length _ _ 14 c.in-14.is c.find-in-14.ensures

pub returns-in-16 : goal.returns-in-16
unfolding words
returns-in-16 c = word_of_length _ _ 16 c.in-16.is c.find-in-16.ensures

pub returns-in_default : goal.returns-in_default
returns-in_default c = word_of_no_length _ (omega arith) (omega arith) (omega arith) (omega arith) (omega arith) (omega arith) (omega arith) (omega arith) (omega arith) (omega arith) (omega arith) (omega arith) (omega arith) (omega arith)
