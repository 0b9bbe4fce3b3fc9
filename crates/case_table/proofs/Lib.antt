mod TableLemmas
